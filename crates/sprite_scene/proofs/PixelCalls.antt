-- What the calls that give, draw and read pixels do while a scene is drawn.
use Rattle.std.proofs.Common.{◌≡◌, ℕ, ◌+◌, ◌*◌, ◌≤◌, ℤ, pos, true, false, not, ◌||◌, ◌&&◌, cond, List, [], ◌∷◌, ◌++◌, length, refl, sym, subst, ap, ◌∙◌, arith, Option, None, Some, get_or, set}
use Rattle.std.specs.Prelude.{◌==◌, nat_lt}
use Rattle.std.specs.Option.{option_and_then, option_map, option_map_or}
use Rattle.std.proofs.lemmas.Bool.{cond-false, cond-true, or_from, ne_eqb, and_from}
use Rattle.std.proofs.lemmas.Int.{ints}
use Rattle.std.proofs.lemmas.List.{length-set}
use Rattle.std.proofs.Math.Seq.{get_or-append_seam}
use Rattle.call_rules.proofs.TestLaws.{is_not_below, is_past, is_within}
use Rattle.call_rules.proofs.GlLaws.{refused_not}
use Rattle.egl_calls.specs.Calls.{CallValue}
use Rattle.egl_calls.specs.declared.kinds.Kind.{Kind}
use Rattle.egl_calls.specs.declared.kinds.Kind.TheVariants.{Gl}
use Rattle.egl_names.specs.declared.codes.TheConstants.{GL_FRAMEBUFFER_COMPLETE_OES}
use Rattle.pixel_formats.specs.declared.formats.Format.TheVariants.{Rgba8888}
use Rattle.pixel_formats.specs.declared.pixels.Pixel.{Pixel}
use Rattle.pixel_rows.specs.Images.{ImageValue, frozen}
use Rattle.pixel_rows.specs.Painting.{painted}
use Rattle.pixel_rows.specs.Payloads.{loaded}
use Rattle.pixel_rows.specs.Transfers.{row_bytes}
use Rattle.pixel_rows.specs.declared.rects.Rect.{Rect}
use Rattle.rect_pipeline.specs.Drawing.{drawn}
use Rattle.rect_pipeline.specs.Samplers.{SamplerValue, sampled}
use Rattle.share_group.specs.Names.{object_of}
use Rattle.egl_calls.specs.Ranges.{unsigned}
use Rattle.texture_objects.specs.Levels.{crop_sides, is_complete, is_complete_over, level_over}
use Rattle.texture_objects.specs.Textures.{TextureValue}
use Rattle.texture_objects.specs.Uploads.{uploaded}
use Rattle.texture_objects.specs.declared.levels.Shape.{Shape}
use Rattle.texture_objects.specs.declared.parameters.WrapMode.TheVariants.{Repeat}
use Rattle.driver_objects.specs.Storages.{drawn_image, drawn_storage, storage_bytes, stored}
use Rattle.driver_objects.specs.declared.objects.Object.{Object}
use Rattle.driver_objects.specs.declared.objects.Object.TheVariants.{Storage, Texture}
use Rattle.egl_model.specs.Currents.{draw_storage, part_of_context, read_storage}
use Rattle.egl_model.specs.Drawing.{rows_of}
use Rattle.egl_model.specs.Draws.{draw_into, drawn_rect, sampler, sampler_by, sampler_in, sampler_over, shape_in, shape_of}
use Rattle.egl_model.specs.Effects.{valued}
use Rattle.egl_model.specs.Framebuffers.{BoundFramebuffer, bound_framebuffer, current_framebuffer_name, framebuffer_name, is_complete as is_framebuffer_complete, window_framebuffer, window_status}
use Rattle.egl_model.specs.GlCalls.{gl_refusal}
use Rattle.egl_model.specs.GlFacts.{gl_facts_of}
use Rattle.egl_model.specs.Objects.{as_storage, as_surface, as_texture, change_storage, storage_in, surface_in, texture_in, with_storage}
use Rattle.egl_model.specs.declared.records.ThreadRecord.{ThreadRecord}
use Rattle.egl_model.specs.State.{State}
use Rattle.egl_model.specs.Step.{Stepped, step}
use Rattle.egl_calls.specs.declared.errors.Outcome.TheVariants.{Done}
use Rattle.call_rules.specs.RenderbufferRules.{is_no_side}
use Rattle.egl_model.specs.Sweep.{bytes_in, live_bytes}
use Rattle.egl_model.specs.Textures.{change_pixels, image_bytes, new_level, specified, target_texture, unpack_alignment, with_pixels}
use Rattle.model_laws.proofs.Calls.TextureCalls.{small}
use Rattle.scene_reader.specs.Items.{is_texture_side}
use Rattle.scene_reader.specs.declared.items.ScaledPart.{ScaledPart}
use Rattle.sprite_scene.specs.Calls.{draw_tex, read_all, tex_image}
use Rattle.sprite_scene.proofs.Changes.{bytes-new, bytes-set, has_level, has_low, has_new, here, level_here, shows_high, shows_new, stored_kept, texture_new, there}
use Rattle.sprite_scene.proofs.LineCalls.{Goes, Keeps, Passes, effect_of, goes, part_is, stepped}
use Rattle.sprite_scene.proofs.Reaching.{has_swept, led_slot, stands_swept, stays-1}
use Rattle.sprite_scene.proofs.SideLaws.{side_fits, side_range}
use Rattle.sprite_scene.proofs.TextureCalls.{target_is}
use Rattle.sprite_scene.proofs.Views.{Has, IsNearest, IsPicture, IsStored, IsTextureAt, Stands, View, context_of, one_level, settings}

-- ---- glTexImage2D.
bytes_are : (w h : ℕ) (texels : List ℕ) → w ≤ 1024 → h ≤ 1024 → image_bytes (tex_image w h texels) ≡ w * h * 4
bytes_are w h texels a b = rw (small w a, small h b) refl

image_none : (s : State) (w h : ℕ) (texels : List ℕ) → is_texture_side w ≡ true → is_texture_side h ≡ true → live_bytes s.objects + w * h * 4 ≤ s.video → Passes s (tex_image w h texels)
unfolding gl_refusal
image_none s w h texels a b room =
    let e = bytes_are w h texels (side_range w a).high (side_range h b).high in
    refused_not (tex_image w h texels) (gl_facts_of s 0 2 (tex_image w h texels)) _ refl
    (refl, (refl, (refl, (refl, (or_from _ _ (side_fits w a) (side_fits h b), (refl, (refl, (refl, (is_within s.video (live_bytes s.objects + image_bytes (tex_image w h texels)) (omega (arith, e, room)), tt)))))))))

-- the image of the texels
abbrev pub image_of : ℕ → ℕ → List ℕ → ImageValue
image_of w h texels = frozen (uploaded (tex_image w h texels) 4)

stored_bytes : (w h : ℕ) (texels : List ℕ) → storage_bytes (stored (image_of w h texels)) ≡ w * h * 4
unfolding loaded painted
stored_bytes w h texels = refl

image_effect : (s : State) (v : View) (b x w h : ℕ) (texels : List ℕ) → Stands s v b → v.texture ≡ Some x → 1 ≤ w → 1 ≤ h →
    effect_of s (tex_image w h texels) ≡ valued (pos 0) (specified 0 (Some (stored (image_of w h texels))) (Some x) s)
image_effect s v b x w h texels k e a c =
    ap (λ n. valued (pos 0) (specified 0 (new_level (tex_image w h texels) n) (target_texture s 2) s)) (ap (λ p. option_map_or (λ q. q.unpack_alignment) p 4) (part_is s v b k))
    ∙ ap (λ l. valued (pos 0) (specified 0 l (target_texture s 2) s)) (cond-false ((w == 0) || (h == 0)) None (Some (stored (image_of w h texels))) (or_from _ _ (ne_eqb w 0 (omega (arith, a))) (ne_eqb h 0 (omega (arith, c)))))
    ∙ ap (λ o. valued (pos 0) (specified 0 (Some (stored (image_of w h texels))) o s)) (target_is s v b x k e)

-- a texture with the texels, besides those that there were
pub record Made (s : State) (v : View) (b x w h : ℕ) (pixel : ℕ → ℕ → Pixel) (a : State) : Type 0 where
  pub stands : Stands a v (b + w * h * 4)
  pub has : Has a.objects v.names v.name w h pixel
  pub keeps : Keeps s v a

pub image_goes : (s : State) (v : View) (b x w h : ℕ) (t : TextureValue) (texels : List ℕ) (pixel : ℕ → ℕ → Pixel) → Stands s v b → v.texture ≡ Some x → object_of v.name v.names ≡ Some x → IsTextureAt s.objects x t None → IsNearest t →
    is_texture_side w ≡ true → is_texture_side h ≡ true → b + w * h * 4 ≤ 1073741824 → IsPicture w h pixel (image_of w h texels) → Goes s (tex_image w h texels) (Made s v b x w h pixel)
unfolding change_pixels
image_goes s v b x w h t texels pixel k e named y near sw sh room picture =
    let os = s.objects in
    let new : Object = Storage (stored (image_of w h texels)) in
    let m = length os in
    let more : List (Option Object) = os ++ Some new ∷ [] in
    let f = with_pixels 0 (Some m) in
    let a : State = record s { objects = set more x (f (get_or more x None)) } in
    let y1 = texture_new os x t None new y in
    let video = k.thread.video in
    let few = k.few in
    let bytes = bytes-new os new in
    let size = stored_bytes w h texels in
    let set_bytes = bytes-set more x (f (get_or more x None)) _ y1.is (ap (λ o. bytes_in (f o)) y1.is) in
    let long = k.shows.long in
    let after : Stands a v (b + w * h * 4) = record {
      thread = record { is = k.thread.is; video = k.thread.video };
      shows = shows_high more _ v.target v.names x (f (get_or more x None)) y.beyond (shows_new os _ v.target v.names new k.shows);
      few = omega (arith, few, bytes, size, set_bytes);
    } in
    let level = level_here more x t m y1 in
    let image : IsStored more m w h pixel = record { image = image_of w h texels; beyond = long; is = get_or-append_seam os (Some new) [] None; picture = picture } in
    let has : Has a.objects v.names v.name w h pixel = record {
      object = x;
      storage = m;
      texture = t;
      named = named;
      textured = level;
      nearest = near;
      pixels = stored_kept more x f m w h pixel (λ i. refl) image;
    } in
    goes s _ (tex_image w h texels).args [] (Some texels) (valued (pos 0) a) (Made s v b x w h pixel) k.thread (image_none s w h texels sw sh (omega (arith, few, room, video)))
    (image_effect s v b x w h texels k e (side_range w sw).low (side_range h sh).low) refl (record {
      stands = stands_swept a v (b + w * h * 4) after;
      has = has_swept a v.texture v.name (settings v) v.target v.names v.name w h pixel after.thread after.shows has;
      keeps = λ name i j other z. has_swept a v.texture v.name (settings v) v.target v.names name i j other after.thread after.shows
          (has_level more v.names name i j other x t m y1 (has_new os v.names name i j other new z));
    })

-- ---- What is drawn to and read from.
name_is : (s : State) (v : View) (b : ℕ) → Stands s v b → current_framebuffer_name s 0 ≡ 0
name_is s v b k =
    ap (λ (o : Option ℕ). framebuffer_name (option_and_then (part_of_context s) o)) (ap (λ (r : ThreadRecord). option_map (λ b. b.object) r.context) k.thread.is)
    ∙ ap framebuffer_name (part_is s v b k)

target_storage : (s : State) (v : View) (b : ℕ) → Stands s v b → option_map (λ x. x.storage) (surface_in s.objects 0) ≡ Some 1
target_storage s v b k = ap (λ o. option_map (λ x. x.storage) (as_surface o)) k.shows.surface_at ∙ ap Some k.shows.surface_storage

draw_is : (s : State) (v : View) (b : ℕ) → Stands s v b → draw_storage s 0 ≡ Some 1
draw_is s v b k = ap (λ (r : ThreadRecord). option_map (λ x. x.storage) (option_and_then (λ x. surface_in s.objects x.object) r.draw)) k.thread.is ∙ target_storage s v b k

read_is : (s : State) (v : View) (b : ℕ) → Stands s v b → read_storage s 0 ≡ Some 1
read_is s v b k = ap (λ (r : ThreadRecord). option_map (λ x. x.storage) (option_and_then (λ x. surface_in s.objects x.object) r.read)) k.thread.is ∙ target_storage s v b k

abbrev the_target : BoundFramebuffer
the_target = record { draw = Some 1; read = Some 1; status = GL_FRAMEBUFFER_COMPLETE_OES }

framebuffer_is : (s : State) (v : View) (b : ℕ) → Stands s v b → bound_framebuffer s 0 ≡ the_target
framebuffer_is s v b k =
    cond-true (current_framebuffer_name s 0 == 0) (window_framebuffer s 0) _ (ap (λ n. n == 0) (name_is s v b k))
    ∙ ap (λ (o : Option ℕ). record { draw = o; read = read_storage s 0; status = window_status o }) (draw_is s v b k)
    ∙ ap (λ (o : Option ℕ). record { draw = Some 1; read = o; status = GL_FRAMEBUFFER_COMPLETE_OES }) (read_is s v b k)

complete : (s : State) (v : View) (b : ℕ) → Stands s v b → is_framebuffer_complete (bound_framebuffer s 0) ≡ true
complete s v b k = ap is_framebuffer_complete (framebuffer_is s v b k)

-- ---- What is sampled.
pub record IsSampler (z : SamplerValue) (w h : ℕ) (pixel : ℕ → ℕ → Pixel) (cut : List ℤ) : Type 0 where
  pub picture : IsPicture w h pixel z.image
  pub across : z.base_w ≡ w
  pub up : z.base_h ≡ h
  pub columns : z.texture.wrap_s ≡ Repeat
  pub rows : z.texture.wrap_t ≡ Repeat
  pub crop : z.texture.crop ≡ cut

-- the crop rectangle of a texture
unfoldable pub crop_in : Option Object → List ℤ
crop_in (Some (Texture x)) = x.texture.crop
crop_in o = []

-- the name that is bound has its texture bound, with this crop rectangle
pub record IsCut (os : List (Option Object)) (v : View) (cut : List ℤ) : Type 0 where
  pub bound : v.texture ≡ object_of v.name v.names
  pub crop : (x : ℕ) → v.texture ≡ Some x → crop_in (get_or os x None) ≡ cut

sampler_is : (os : List (Option Object)) (r : Rect) (x k w h : ℕ) (t : TextureValue) (i : ImageValue) → get_or os k None ≡ Some (Storage (stored i)) → i.width ≡ w → i.height ≡ h → 1 ≤ w → 1 ≤ h → IsNearest t →
    sampler_in os r (record { texture = t; levels = one_level (Some k) }) ≡ Some (sampled i t i.width i.height)
sampler_is os r x k w h t i e iw ih a b near =
    let base : Option Shape = Some (record { format = i.format; w = i.width; h = i.height }) in
    let shape : shape_in os (Some k) ≡ base = ap (λ o. option_map shape_of (as_storage o)) e in
    let shapes : List (Option Shape) = base ∷ None ∷ None ∷ None ∷ None ∷ None ∷ None ∷ None ∷ None ∷ None ∷ None ∷ [] in
    ap (λ (o : Option Shape). sampler_by (o ∷ None ∷ None ∷ None ∷ None ∷ None ∷ None ∷ None ∷ None ∷ None ∷ None ∷ []) os r (record { texture = t; levels = one_level (Some k) })) shape
    ∙ cond-true (is_complete t shapes) _ None (ap (λ f. is_complete_over f shapes base) near.filter)
    ∙ ap (λ f. sampler_over t base (option_and_then (storage_in os) (get_or (one_level (Some k)) (level_over f base (crop_sides t) (record { w = unsigned r.w; h = unsigned r.h })) None))) near.filter
    ∙ ap (λ o. sampler_over t base (as_storage o)) e
    ∙ cond-true ((nat_lt 0 i.width && nat_lt 0 i.height) && (nat_lt 0 i.width && nat_lt 0 i.height)) _ None (and_from _ _ sides sides)
  where
    sides : (nat_lt 0 i.width && nat_lt 0 i.height) ≡ true
    sides = and_from _ _ (is_past 0 i.width (omega (arith, iw, a))) (is_past 0 i.height (omega (arith, ih, b)))

sampler_found : (s : State) (v : View) (b w h : ℕ) (pixel : ℕ → ℕ → Pixel) (r : Rect) (a : Has s.objects v.names v.name w h pixel) → Stands s v b → v.texture ≡ Some a.object → 1 ≤ w → 1 ≤ h →
    sampler s 2 r ≡ Some (sampled a.pixels.image a.texture a.pixels.image.width a.pixels.image.height)
sampler_found s v b w h pixel r a k e p q =
    let i = a.pixels.image in
    ap (λ o. option_and_then (sampler_in s.objects r) (option_and_then (texture_in s.objects) o)) (target_is s v b a.object k e)
    ∙ ap (λ o. option_and_then (sampler_in s.objects r) (as_texture o)) a.textured.is
    ∙ sampler_is s.objects r a.object a.storage w h a.texture i a.pixels.is a.pixels.picture.width a.pixels.picture.height p q a.nearest

-- ---- glDrawTexiOES.
draw_none : (s : State) (v : View) (b : ℕ) (d : ScaledPart) → Stands s v b → 1 ≤ d.width → 1 ≤ d.height → Passes s (draw_tex d)
unfolding gl_refusal
draw_none s v b d k p q =
    refused_not (draw_tex d) (gl_facts_of s 0 2 (draw_tex d)) _ refl
    (or_from _ _ (is_not_below (pos d.width) (pos 1) (grind (arith, ints, p))) (is_not_below (pos d.height) (pos 1) (grind (arith, ints, q))), (ap not (complete s v b k), tt))

-- the rectangle of a draw in fixed point, by its kind
abbrev pub rect_by : Kind → CallValue → Rect
rect_by (Gl k) c = drawn_rect k c
rect_by k c = record { x = pos 0; y = pos 0; w = pos 0; h = pos 0 }

abbrev pub fixed_rect : ScaledPart → Rect
fixed_rect d = rect_by (draw_tex d).kind (draw_tex d)

abbrev pub drawn_target : View → SamplerValue → ScaledPart → ImageValue
drawn_target v z d = drawn_image (settings v) (Some z) (fixed_rect d) v.target

abbrev pub drawn_view : View → SamplerValue → ScaledPart → View
drawn_view v z d = record v { target = drawn_target v z d }

draw_effect : (s : State) (v : View) (b : ℕ) (d : ScaledPart) (z : SamplerValue) → Stands s v b → sampler s 2 (fixed_rect d) ≡ Some z →
    effect_of s (draw_tex d) ≡ valued (pos 0) (draw_into (Some (settings v)) (Some 1) (Some z) (fixed_rect d) s)
draw_effect s v b d z k e =
    ap (λ p. valued (pos 0) (draw_into p (bound_framebuffer s 0).draw (sampler s 2 (fixed_rect d)) (fixed_rect d) s)) (part_is s v b k)
    ∙ ap (λ (f : BoundFramebuffer). valued (pos 0) (draw_into (Some (settings v)) f.draw (sampler s 2 (fixed_rect d)) (fixed_rect d) s)) (framebuffer_is s v b k)
    ∙ ap (λ o. valued (pos 0) (draw_into (Some (settings v)) (Some 1) o (fixed_rect d) s)) e

-- the target once a part was drawn, by a sampler of these pixels
pub record Drawn (s : State) (v : View) (b w h : ℕ) (pixel : ℕ → ℕ → Pixel) (cut : List ℤ) (d : ScaledPart) (a : State) : Type 0 where
  pub from : SamplerValue
  pub sampler : IsSampler from w h pixel cut
  pub stands : Stands a (drawn_view v from d) b
  pub cuts : IsCut a.objects (drawn_view v from d) cut
  pub keeps : Keeps s v a

pub draw_goes : (s : State) (v : View) (b w h : ℕ) (pixel : ℕ → ℕ → Pixel) (cut : List ℤ) (d : ScaledPart) → Stands s v b → Has s.objects v.names v.name w h pixel → IsCut s.objects v cut → 1 ≤ w → 1 ≤ h → 1 ≤ d.width → 1 ≤ d.height →
    Goes s (draw_tex d) (Drawn s v b w h pixel cut d)
unfolding change_storage crop_in painted drawn
draw_goes s v b w h pixel cut d k a c p q dp dq =
    let os = s.objects in
    let x = a.object in
    let e : v.texture ≡ Some x = c.bound ∙ a.named in
    let i = a.pixels.image in
    let z : SamplerValue = sampled i a.texture i.width i.height in
    let f = with_storage (drawn_storage (settings v) (Some z) (fixed_rect d)) in
    let st : State = record s { objects = set os 1 (f (get_or os 1 None)) } in
    let u = drawn_view v z d in
    let ps = k.shows in
    let few = k.few in
    let bytes = bytes-set os 1 (f (get_or os 1 None)) (Storage (stored v.target)) ps.target_at (ap (λ o. bytes_in (f o)) ps.target_at) in
    let long = ps.long in
    let same = length-set os 1 (f (get_or os 1 None)) in
    let after : Stands st u b = record {
      thread = record { is = k.thread.is; video = k.thread.video };
      shows = record {
        surface = ps.surface;
        surface_at = there os 1 0 _ (omega arith) ∙ ps.surface_at;
        surface_storage = ps.surface_storage;
        target_at = here os 1 f (Storage (stored v.target)) ps.target_at;
        context_at = there os 1 2 _ (omega arith) ∙ ps.context_at;
        group_at = there os 1 3 _ (omega arith) ∙ ps.group_at;
        long = omega (arith, long, same);
      };
      few = omega (arith, few, bytes);
    } in
    goes s _ (draw_tex d).args [] None (valued (pos 0) st) (Drawn s v b w h pixel cut d) k.thread (draw_none s v b d k dp dq)
    (draw_effect s v b d z k (sampler_found s v b w h pixel (fixed_rect d) a k e p q)) refl (record {
      from = z;
      sampler = record {
        picture = a.pixels.picture;
        across = a.pixels.picture.width;
        up = a.pixels.picture.height;
        columns = a.nearest.across;
        rows = a.nearest.up;
        crop = sym (ap crop_in a.textured.is) ∙ c.crop x e;
      };
      stands = stands_swept st u b after;
      cuts = record {
        bound = c.bound;
        crop = λ y g.
            let beyond : 5 ≤ y = subst (λ n. 5 ≤ n) (some_is x y (sym e ∙ g)) a.textured.beyond in
            ap crop_in (stays-1 st y (led_slot st (context_of u) u.target u.names 2 y after.thread after.shows g) ∙ there os 1 y _ (omega (arith, beyond))) ∙ c.crop y g;
      };
      keeps = λ name j l other o. has_swept st u.texture u.name (settings u) u.target u.names name j l other after.thread after.shows (has_low os v.names name j l other 1 _ (omega arith) o);
    })
  where
    some_is : (x y : ℕ) → Some x ≡ Some y → x ≡ y
    some_is x y h = cc

-- ---- glReadPixels of the whole target.
read_none : (s : State) (v : View) (b w h : ℕ) → Stands s v b → w ≤ 2048 → h ≤ 2048 → Passes s (read_all w h)
unfolding gl_refusal
read_none s v b w h k p q =
    refused_not (read_all w h) (gl_facts_of s 0 2 (read_all w h)) _ refl
    (or_from _ _ (side w p) (side h q), (refl, (refl, (ap not (complete s v b k), tt))))
  where
    side : (n : ℕ) → n ≤ 2048 → is_no_side (pos n) ≡ false
    side n l = or_from _ _ (is_not_below (pos n) (pos 0) (grind (arith, ints))) (is_not_below (pos 2048) (pos n) (grind (arith, ints, l)))

abbrev pub whole_target : ℕ → ℕ → Rect
whole_target w h = record { x = pos 0; y = pos 0; w = pos w; h = pos h }

-- the bytes are those of the target's rows
pub read_goes : (s : State) (v : View) (b w h : ℕ) → Stands s v b → w ≤ 2048 → h ≤ 2048 →
    ((step s 0 (read_all w h)).reply.outcome ≡ Done) × ((step s 0 (read_all w h)).reply.bytes ≡ row_bytes v.target (whole_target w h) Rgba8888 4)
read_goes s v b w h k p q =
    let all = stepped s _ (read_all w h).args [] None k.thread (read_none s v b w h k p q) in (
      ap (λ (x : Stepped). x.reply.outcome) all,
      ap (λ (x : Stepped). x.reply.bytes) all
          ∙ ap (λ p. rows_of (read_all w h) (option_map_or (λ p. p.pack_alignment) p 4) (option_and_then (storage_in s.objects) (bound_framebuffer s 0).read)) (part_is s v b k)
          ∙ ap (λ (f : BoundFramebuffer). rows_of (read_all w h) 4 (option_and_then (storage_in s.objects) f.read)) (framebuffer_is s v b k)
          ∙ ap (λ o. rows_of (read_all w h) 4 (as_storage o)) k.shows.target_at,
    )
