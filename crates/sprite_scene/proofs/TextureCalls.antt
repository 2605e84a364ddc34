-- What the calls on textures do while a scene is drawn.
use Rattle.std.proofs.Common.{◌≡◌, ◌≢◌, ℕ, ◌+◌, ◌<◌, ◌≤◌, ℤ, pos, false, cond, List, [], ◌∷◌, ◌++◌, length, refl, ap, ◌∙◌, arith, Option, None, Some, get_or, set}
use Rattle.std.specs.Prelude.{◌==◌}
use Rattle.std.specs.Option.{option_map, option_map_or}
use Rattle.std.proofs.lemmas.Bool.{cond-false, ne_eqb}
use Rattle.std.proofs.lemmas.Int.{ints}
use Rattle.std.proofs.lemmas.List.{length-set}
use Rattle.std.proofs.Math.Seq.{get_or-append_seam}
use Rattle.std.specs.Prelude.{unwrap_or}
use Rattle.call_rules.proofs.TestLaws.{is_not_below}
use Rattle.call_rules.proofs.GlLaws.{refused_not}
use Rattle.egl_names.specs.declared.codes.TheConstants.{GL_NEAREST, GL_TEXTURE_BINDING_2D, GL_TEXTURE_MAG_FILTER, GL_TEXTURE_MIN_FILTER}
use Rattle.pixel_formats.specs.declared.pixels.Pixel.{Pixel}
use Rattle.pixel_rows.specs.Images.{ImageValue}
use Rattle.share_group.specs.Names.{object_of, put}
use Rattle.share_group.specs.declared.names.Name.{Name}
use Rattle.share_group.specs.declared.names.NameKind.TheVariants.{Texture as textures}
use Rattle.texture_objects.specs.Textures.{TextureValue, crop_of, fresh}
use Rattle.texture_objects.specs.declared.parameters.MagFilter.TheVariants.{Nearest as MagNearest}
use Rattle.texture_objects.specs.declared.parameters.MinFilter.TheVariants.{Nearest}
use Rattle.driver_objects.specs.declared.contexts.Context.{Context as ContextObject}
use Rattle.driver_objects.specs.declared.objects.Object.{Object}
use Rattle.driver_objects.specs.declared.objects.Object.TheVariants.{Context, Group}
use Rattle.driver_objects.specs.declared.targets.BindTarget.TheVariants.{Texture as texture_target}
use Rattle.egl_model.specs.Bindings.{bound_at, bound_named, bound_object, named_at}
use Rattle.egl_model.specs.Contexts.{new_texture}
use Rattle.egl_model.specs.Effects.{valued}
use Rattle.egl_model.specs.GlCalls.{gl_refusal}
use Rattle.egl_model.specs.GlFacts.{gl_facts_of}
use Rattle.egl_model.specs.Names.{group_of, object_named, with_name_of}
use Rattle.egl_model.specs.Objects.{as_context, as_group, change_context, change_group, change_texture, with_context, with_group, with_texture}
use Rattle.egl_model.specs.State.{State}
use Rattle.egl_model.specs.Sweep.{bytes_in, live_bytes, sweep}
use Rattle.egl_model.specs.Textures.{set_crop, set_parameter, target_texture}
use Rattle.sprite_scene.specs.Calls.{bind_texture, crop, set_nearest}
use Rattle.sprite_scene.proofs.Changes.{bytes-new, bytes-set, has_low, has_named, has_new, has_parameter, here, parameter_here, retextured, shows_high, shows_new, texture_low, there}
use Rattle.sprite_scene.proofs.LineCalls.{Goes, Keeps, Passes, effect_of, goes}
use Rattle.sprite_scene.proofs.NameLaws.{object_put_other}
use Rattle.sprite_scene.proofs.Reaching.{has_swept, stands_swept, texture_swept}
use Rattle.sprite_scene.proofs.Views.{Has, IsNearest, IsTextureAt, Shows, Stands, View, context_of, group_with, settings}

-- ---- What a name has.
group_is : (s : State) (v : View) (b : ℕ) → Stands s v b → group_of s 2 ≡ 3
group_is s v b t = ap (λ o. option_map_or (λ x. x.group) (as_context o) 0) t.shows.context_at

named_is : (s : State) (v : View) (b name : ℕ) → Stands s v b → object_named s (group_of s 2) textures name ≡ object_of name v.names
named_is s v b name t = ap (λ g. object_named s g textures name) (group_is s v b t) ∙ ap (λ o. object_of name (option_map_or (λ x. x.textures) (as_group o) [])) t.shows.group_at

-- ---- A context has an object bound under a name.
abbrev pub bound : View → ℕ → ℕ → View
bound v x name = record v { texture = Some x; name = name }

binding : (os : List (Option Object)) (v : View) (x name : ℕ) → Shows os (context_of v) v.target v.names → Shows (bound_object texture_target 2 (Some x) name os) (context_of (bound v x name)) v.target v.names
unfolding change_context
binding os v x name w =
    let f = with_context (named_at GL_TEXTURE_BINDING_2D name) in
    let g = with_context (bound_at 2 (Some x)) in
    let one : List (Option Object) = set os 2 (f (get_or os 2 None)) in
    let first = here os 2 f (Context (context_of v)) w.context_at in
    record {
      surface = w.surface;
      surface_at = there one 2 0 _ (omega arith) ∙ there os 2 0 _ (omega arith) ∙ w.surface_at;
      surface_storage = w.surface_storage;
      target_at = there one 2 1 _ (omega arith) ∙ there os 2 1 _ (omega arith) ∙ w.target_at;
      context_at = here one 2 g _ first;
      group_at = there one 2 3 _ (omega arith) ∙ there os 2 3 _ (omega arith) ∙ w.group_at;
      long = let l = w.long in let a = length-set os 2 (f (get_or os 2 None)) in let b = length-set one 2 (g (get_or one 2 None)) in omega (arith, l, a, b);
    }

binding_bytes : (os : List (Option Object)) (v : View) (x name : ℕ) → Shows os (context_of v) v.target v.names → live_bytes (bound_object texture_target 2 (Some x) name os) ≡ live_bytes os
unfolding change_context
binding_bytes os v x name w =
    let f = with_context (named_at GL_TEXTURE_BINDING_2D name) in
    let g = with_context (bound_at 2 (Some x)) in
    let one : List (Option Object) = set os 2 (f (get_or os 2 None)) in
    let first = here os 2 f (Context (context_of v)) w.context_at in
    bytes-set one 2 (g (get_or one 2 None)) _ first (ap (λ o. bytes_in (g o)) first) ∙ bytes-set os 2 (f (get_or os 2 None)) (Context (context_of v)) w.context_at (ap (λ o. bytes_in (f o)) w.context_at)

binding_has : (os : List (Option Object)) (names : List Name) (x bound name w h : ℕ) (pixel : ℕ → ℕ → Pixel) → Has os names name w h pixel → Has (bound_object texture_target 2 (Some x) bound os) names name w h pixel
unfolding change_context
binding_has os names x bound name w h pixel a = has_low _ names name w h pixel 2 _ (omega arith) (has_low os names name w h pixel 2 _ (omega arith) a)

binding_texture : (os : List (Option Object)) (x bound y : ℕ) (t : TextureValue) (level : Option ℕ) → IsTextureAt os y t level → IsTextureAt (bound_object texture_target 2 (Some x) bound os) y t level
unfolding change_context
binding_texture os x bound y t level a = texture_low _ 2 _ y t level (omega arith) (texture_low os 2 _ y t level (omega arith) a)

-- ---- glBindTexture of a name that has a texture.
bind_none : (s : State) (name : ℕ) → Passes s (bind_texture name)
unfolding gl_refusal
bind_none s name = refused_not (bind_texture name) (gl_facts_of s 0 2 (bind_texture name)) _ refl (refl, (is_not_below (pos name) (pos 0) (grind (arith, ints)), tt))

abbrev pub bound_state : State → ℕ → ℕ → State
bound_state s x name = record s { objects = bound_object texture_target 2 (Some x) name s.objects }

bind_effect : (s : State) (v : View) (b name : ℕ) → Stands s v b → 0 < name → effect_of s (bind_texture name) ≡ valued (pos 0) (bound_named texture_target 3 2 name (object_of name v.names) s)
bind_effect s v b name t some =
    ap (valued (pos 0)) (cond-false (name == 0) _ _ (ne_eqb name 0 (omega arith))
    ∙ ap (λ o. bound_named texture_target (group_of s 2) 2 name o s) (named_is s v b name t)
    ∙ ap (λ g. bound_named texture_target g 2 name (object_of name v.names) s) (group_is s v b t))

pub record Bound (s : State) (v : View) (b x name : ℕ) (a : State) : Type 0 where
  pub stands : Stands a (bound v x name) b
  pub keeps : Keeps s v a

bound_stands : (s : State) (v : View) (b x name : ℕ) → Stands s v b → Stands (bound_state s x name) (bound v x name) b
bound_stands s v b x name t = record {
  thread = record { is = t.thread.is; video = t.thread.video };
  shows = binding s.objects v x name t.shows;
  few = let f = t.few in let e = binding_bytes s.objects v x name t.shows in omega (arith, f, e);
}

bound_swept : (s : State) (v : View) (b x name : ℕ) → Stands s v b → Bound s v b x name (sweep (bound_state s x name))
bound_swept s v b x name t =
    let a = bound_state s x name in
    let u = bound v x name in
    let after = bound_stands s v b x name t in
    record {
      stands = stands_swept a u b after;
      keeps = λ k w h pixel i. has_swept a u.texture u.name (settings u) u.target u.names k w h pixel after.thread after.shows (binding_has s.objects v.names x name k w h pixel i);
    }

pub bind_goes : (s : State) (v : View) (b x name : ℕ) → Stands s v b → 0 < name → object_of name v.names ≡ Some x → Goes s (bind_texture name) (Bound s v b x name)
bind_goes s v b x name t some h =
    goes s _ (bind_texture name).args [] None (valued (pos 0) (bound_state s x name)) (Bound s v b x name) t.thread (bind_none s name)
    (bind_effect s v b name t some ∙ ap (λ o. valued (pos 0) (bound_named texture_target 3 2 name o s)) h) refl (bound_swept s v b x name t)

-- ---- glBindTexture of a new name.
abbrev pub with_new : List Name → ℕ → ℕ → List Name
with_new names name x = put (record { name = name; object = Some x }) names

-- a table with a new texture that has a name
abbrev named_anew : ℕ → List (Option Object) → List (Option Object)
named_anew name os = change_group (with_name_of textures name (Some (length os))) 3 (os ++ Some new_texture ∷ [])

naming : (os : List (Option Object)) (c : ContextObject) (i : ImageValue) (names : List Name) (name : ℕ) → Shows os c i names → Shows (named_anew name os) c i (with_new names name (length os))
unfolding change_group
naming os c i names name w =
    let more : List (Option Object) = os ++ Some new_texture ∷ [] in
    let f = with_group (with_name_of textures name (Some (length os))) in
    let v = shows_new os c i names new_texture w in
    record {
      surface = v.surface;
      surface_at = there more 3 0 _ (omega arith) ∙ v.surface_at;
      surface_storage = v.surface_storage;
      target_at = there more 3 1 _ (omega arith) ∙ v.target_at;
      context_at = there more 3 2 _ (omega arith) ∙ v.context_at;
      group_at = here more 3 f (Group (group_with names)) v.group_at;
      long = let l = v.long in let e = length-set more 3 (f (get_or more 3 None)) in omega (arith, l, e);
    }

naming_bytes : (os : List (Option Object)) (c : ContextObject) (i : ImageValue) (names : List Name) (name : ℕ) → Shows os c i names → live_bytes (named_anew name os) ≡ live_bytes os
unfolding change_group
naming_bytes os c i names name w =
    let more : List (Option Object) = os ++ Some new_texture ∷ [] in
    let f = with_group (with_name_of textures name (Some (length os))) in
    let v = shows_new os c i names new_texture w in
    let e = bytes-set more 3 (f (get_or more 3 None)) (Group (group_with names)) v.group_at (ap (λ o. bytes_in (f o)) v.group_at) in
    let n = bytes-new os new_texture in
    omega (arith, e, n)

naming_has : (os : List (Option Object)) (names : List Name) (new name w h : ℕ) (pixel : ℕ → ℕ → Pixel) → new ≢ name → Has os names name w h pixel → Has (named_anew new os) (with_new names new (length os)) name w h pixel
unfolding change_group
naming_has os names new name w h pixel ne a =
    has_low _ (with_new names new (length os)) name w h pixel 3 _ (omega arith)
    (has_new os (with_new names new (length os)) name w h pixel new_texture (has_named os names name w h pixel (with_new names new (length os)) (object_put_other name new (length os) names ne) a))

naming_texture : (os : List (Option Object)) (name : ℕ) → 5 ≤ length os → IsTextureAt (named_anew name os) (length os) fresh None
unfolding change_group
naming_texture os name l =
    texture_low (os ++ Some new_texture ∷ []) 3 _ (length os) fresh None (omega arith) (record { beyond = l; is = get_or-append_seam os (Some new_texture) [] None })

abbrev pub with_texture_named : View → ℕ → ℕ → View
with_texture_named v name x = record v { texture = Some x; name = name; names = with_new v.names name x }

-- a new texture is bound, with no pixels yet
pub record Making (s : State) (v : View) (b name : ℕ) (t : TextureValue) (a : State) : Type 0 where
  pub object : ℕ
  pub stands : Stands a (with_texture_named v name object) b
  pub texture : IsTextureAt a.objects object t None
  pub keeps : (other w h : ℕ) (pixel : ℕ → ℕ → Pixel) → name ≢ other → Has s.objects v.names other w h pixel → Has a.objects (with_new v.names name object) other w h pixel

pub bind_new_goes : (s : State) (v : View) (b name : ℕ) → Stands s v b → 0 < name → object_of name v.names ≡ None → Goes s (bind_texture name) (Making s v b name fresh)
bind_new_goes s v b name t some h =
    let x = length s.objects in
    let m : State = record s { objects = named_anew name s.objects } in
    let vm : View = record v { names = with_new v.names name x } in
    let u = with_texture_named v name x in
    let w = naming s.objects (context_of v) v.target v.names name t.shows in
    let middle : Stands m vm b = record {
      thread = record { is = t.thread.is; video = t.thread.video };
      shows = w;
      few = let f = t.few in let e = naming_bytes s.objects (context_of v) v.target v.names name t.shows in omega (arith, f, e);
    } in
    let a = bound_state m x name in
    let after : Stands a u b = bound_stands m vm b x name middle in
    let made = binding_texture m.objects x name x fresh None (naming_texture s.objects name t.shows.long) in
    goes s _ (bind_texture name).args [] None (valued (pos 0) a) (Making s v b name fresh) t.thread (bind_none s name)
    (bind_effect s v b name t some ∙ ap (λ o. valued (pos 0) (bound_named texture_target 3 2 name o s)) h) refl (record {
      object = x;
      stands = stands_swept a u b after;
      texture = texture_swept a (context_of u) u.target u.names x fresh None after.thread after.shows refl made;
      keeps = λ other k l pixel ne i. has_swept a u.texture u.name (settings u) u.target u.names other k l pixel after.thread after.shows
          (binding_has m.objects u.names x name other k l pixel (naming_has s.objects v.names name other k l pixel ne i));
    })

-- ---- A parameter of the texture that is bound.
pub target_is : (s : State) (v : View) (b x : ℕ) → Stands s v b → v.texture ≡ Some x → target_texture s 2 ≡ Some x
target_is s v b x t h = ap (λ o. option_map (λ c. unwrap_or c.bound.texture c.texture) (as_context o)) t.shows.context_at ∙ ap (λ o. Some (unwrap_or o 4)) h

-- what keeps the sampling of the nearest texel
abbrev pub KeepsNearest : (TextureValue → TextureValue) → Type 0
KeepsNearest g = (u : TextureValue) → IsNearest u → IsNearest (g u)

pub record Changed (s : State) (v : View) (b x : ℕ) (t : TextureValue) (level : Option ℕ) (a : State) : Type 0 where
  pub stands : Stands a v b
  pub texture : IsTextureAt a.objects x t level
  pub keeps : Keeps s v a

abbrev pub changed_state : State → ℕ → (TextureValue → TextureValue) → State
changed_state s x g = record s { objects = change_texture (retextured g) x s.objects }

changed_swept : (s : State) (v : View) (b x : ℕ) (g : TextureValue → TextureValue) (t : TextureValue) (level : Option ℕ) → KeepsNearest g → Stands s v b → v.texture ≡ Some x → IsTextureAt s.objects x t level →
    Changed s v b x (g t) level (sweep (changed_state s x g))
unfolding change_texture
changed_swept s v b x g t level near k h y =
    let a = changed_state s x g in
    let f = with_texture (retextured g) in
    let new = f (get_or s.objects x None) in
    let after : Stands a v b = record {
      thread = record { is = k.thread.is; video = k.thread.video };
      shows = shows_high s.objects (context_of v) v.target v.names x new y.beyond k.shows;
      few = let e = bytes-set s.objects x new _ y.is (ap (λ o. bytes_in (f o)) y.is) in let l = k.few in omega (arith, e, l);
    } in
    record {
      stands = stands_swept a v b after;
      texture = texture_swept a (context_of v) v.target v.names x (g t) level after.thread after.shows h (parameter_here s.objects x g t level y);
      keeps = λ name w h pixel i. has_swept a v.texture v.name (settings v) v.target v.names name w h pixel after.thread after.shows (has_parameter s.objects v.names name w h pixel x g near i);
    }

-- glTexParameterx
abbrev pub shrunk : TextureValue → TextureValue
shrunk t = record t { min_filter = Nearest }

abbrev pub grown : TextureValue → TextureValue
grown t = record t { mag_filter = MagNearest }

shrunk_none : (s : State) → Passes s (set_nearest GL_TEXTURE_MIN_FILTER)
unfolding gl_refusal
shrunk_none s = refused_not (set_nearest GL_TEXTURE_MIN_FILTER) (gl_facts_of s 0 2 (set_nearest GL_TEXTURE_MIN_FILTER)) _ refl (refl, (refl, tt))

grown_none : (s : State) → Passes s (set_nearest GL_TEXTURE_MAG_FILTER)
unfolding gl_refusal
grown_none s = refused_not (set_nearest GL_TEXTURE_MAG_FILTER) (gl_facts_of s 0 2 (set_nearest GL_TEXTURE_MAG_FILTER)) _ refl (refl, (refl, tt))

pub shrunk_goes : (s : State) (v : View) (b x : ℕ) (t : TextureValue) (level : Option ℕ) → Stands s v b → v.texture ≡ Some x → IsTextureAt s.objects x t level →
    Goes s (set_nearest GL_TEXTURE_MIN_FILTER) (Changed s v b x (shrunk t) level)
shrunk_goes s v b x t level k h y =
    goes s _ (set_nearest GL_TEXTURE_MIN_FILTER).args [] None (valued (pos 0) (changed_state s x shrunk)) (Changed s v b x (shrunk t) level) k.thread (shrunk_none s)
    (ap (λ o. valued (pos 0) (set_parameter GL_TEXTURE_MIN_FILTER GL_NEAREST o s)) (target_is s v b x k h)) refl
    (changed_swept s v b x shrunk t level (λ u i. record { filter = refl; across = i.across; up = i.up }) k h y)

pub grown_goes : (s : State) (v : View) (b x : ℕ) (t : TextureValue) (level : Option ℕ) → Stands s v b → v.texture ≡ Some x → IsTextureAt s.objects x t level →
    Goes s (set_nearest GL_TEXTURE_MAG_FILTER) (Changed s v b x (grown t) level)
grown_goes s v b x t level k h y =
    goes s _ (set_nearest GL_TEXTURE_MAG_FILTER).args [] None (valued (pos 0) (changed_state s x grown)) (Changed s v b x (grown t) level) k.thread (grown_none s)
    (ap (λ o. valued (pos 0) (set_parameter GL_TEXTURE_MAG_FILTER GL_NEAREST o s)) (target_is s v b x k h)) refl
    (changed_swept s v b x grown t level (λ u i. record { filter = i.filter; across = i.across; up = i.up }) k h y)

-- glTexParameteriv
abbrev pub cropped : List ℤ → TextureValue → TextureValue
cropped xs t = record t { crop = xs }

crop_none : (s : State) (u v w h : ℕ) → Passes s (crop u v w h)
unfolding gl_refusal
crop_none s u v w h = refused_not (crop u v w h) (gl_facts_of s 0 2 (crop u v w h)) _ refl (refl, (refl, (refl, tt)))

pub crop_goes : (s : State) (o : View) (b x : ℕ) (t : TextureValue) (level : Option ℕ) (u v w h : ℕ) → Stands s o b → o.texture ≡ Some x → IsTextureAt s.objects x t level →
    Goes s (crop u v w h) (Changed s o b x (cropped (crop_of (pos u) (pos v) (pos w) (pos h)) t) level)
crop_goes s o b x t level u v w h k e y =
    goes s _ (crop u v w h).args (crop u v w h).list None (valued (pos 0) (changed_state s x (cropped (crop_of (pos u) (pos v) (pos w) (pos h))))) (Changed s o b x (cropped (crop_of (pos u) (pos v) (pos w) (pos h)) t) level) k.thread (crop_none s u v w h)
    (ap (λ z. valued (pos 0) (set_crop (crop u v w h).list z s)) (target_is s o b x k e)) refl
    (changed_swept s o b x (cropped (crop_of (pos u) (pos v) (pos w) (pos h))) t level (λ u i. record { filter = i.filter; across = i.across; up = i.up }) k e y)
