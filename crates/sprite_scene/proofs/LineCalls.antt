-- What each call does while a scene is drawn.
use Rattle.std.proofs.Common.{◌≡◌, ℕ, ℤ, pos, false, cond, List, [], ◌∷◌, length, refl, sym, subst, ap, ◌∙◌, arith, Option, None, Some, get_or, set}
use Rattle.std.specs.Option.{option_and_then, option_map}
use Rattle.std.proofs.lemmas.Bool.{or_from}
use Rattle.std.proofs.lemmas.List.{length-set}
use Rattle.std.proofs.lemmas.Int.{ints}
use Rattle.refusal_rows.specs.Rows.{AllOff}
use Rattle.refusal_rows.proofs.RowLaws.{none_on}
use Rattle.call_rules.proofs.TestLaws.{is_not_below}
use Rattle.egl_calls.specs.Calls.{CallValue}
use Rattle.egl_calls.specs.declared.kinds.Kind.{Kind}
use Rattle.egl_calls.specs.declared.kinds.Kind.TheVariants.{Egl, Gl, Own}
use Rattle.egl_calls.specs.declared.kinds.GlKind.{GlKind}
use Rattle.egl_calls.specs.declared.errors.Outcome.TheVariants.{Done, Waiting}
use Rattle.context_state.specs.Parts.{PartValue}
use Rattle.context_state.specs.Calls.{after_rules, apply, changed}
use Rattle.context_state.specs.Refusals.{context_rows, refusal}
use Rattle.call_rules.proofs.GlLaws.{refused_not}
use Rattle.pixel_formats.specs.declared.pixels.Pixel.{Pixel}
use Rattle.pixel_rows.specs.Images.{ImageValue}
use Rattle.share_group.specs.declared.names.Name.{Name}
use Rattle.share_group.specs.declared.names.NameKind.TheVariants.{Texture as textures}
use Rattle.driver_objects.specs.declared.objects.Object.{Object}
use Rattle.driver_objects.specs.declared.objects.Object.TheVariants.{Context}
use Rattle.egl_model.specs.declared.records.ThreadRecord.{ThreadRecord}
use Rattle.egl_model.specs.State.{State}
use Rattle.egl_model.specs.Effects.{Effect, outcome_of, valued}
use Rattle.egl_model.specs.EglCalls.{egl_effect, egl_refusal}
use Rattle.egl_model.specs.OwnCalls.{own_effect}
use Rattle.egl_model.specs.Currents.{current_context, part_of_context}
use Rattle.egl_model.specs.GlCalls.{gl_refusal, gl_effect, applied, local_value}
use Rattle.egl_model.specs.GlFacts.{gl_facts_of}
use Rattle.egl_model.specs.Objects.{as_context, change_part, with_part}
use Rattle.egl_model.specs.Step.{Stepped, done, step}
use Rattle.egl_model.specs.Sweep.{bytes_in, live_bytes, sweep}
use Rattle.model_laws.proofs.Steps.StepLaws.{gl_done, step_goes}
use Rattle.sprite_scene.specs.Calls.{scissor}
use Rattle.sprite_scene.proofs.Changes.{bytes-set, has_low, here, there}
use Rattle.sprite_scene.proofs.Reaching.{has_swept, stands_swept}
use Rattle.sprite_scene.proofs.Views.{Has, IsThread, Shows, Stands, View, context_with, settings}

-- ---- A call of the thread 0, whose current context is the object 2, by its kind: that no row refuses it, and what it does.
abbrev pub IsAllowed : Kind → State → CallValue → Type 0
IsAllowed (Egl k) s c = egl_refusal s 0 k c ≡ None
IsAllowed (Gl k) s c = gl_refusal s 0 2 k c ≡ None
IsAllowed (Own k) s c = Unit {0}

abbrev pub Passes : State → CallValue → Type 0
Passes s c = IsAllowed c.kind s c

abbrev pub effect_by : Kind → State → CallValue → Effect
effect_by (Egl k) s c = egl_effect s 0 k c
effect_by (Gl k) s c = gl_effect s 0 2 k c
effect_by (Own k) s c = own_effect s 0 k c

abbrev pub effect_of : State → CallValue → Effect
effect_of s c = effect_by c.kind s c

-- ---- A call that is done, and what holds behind it.
pub record Goes (s : State) (c : CallValue) (P : State → Type 0) : Type 0 where
  pub done : (step s 0 c).reply.outcome ≡ Done
  pub holds : P (step s 0 c).state

abbrev pub gl_call : GlKind → List ℤ → List ℤ → Option (List ℕ) → CallValue
gl_call k args list bytes = record { kind = Gl k; args = args; list = list; bytes = bytes }

current : (s : State) → IsThread s → current_context s 0 ≡ Some 2
current s t = ap (λ (r : ThreadRecord). option_map (λ b. b.object) r.context) t.is

pub stepped : (s : State) (k : GlKind) (args list : List ℤ) (bytes : Option (List ℕ)) → IsThread s → gl_refusal s 0 2 k (gl_call k args list bytes) ≡ None →
    step s 0 (gl_call k args list bytes) ≡ record { reply = done (gl_effect s 0 2 k (gl_call k args list bytes)); state = sweep (gl_effect s 0 2 k (gl_call k args list bytes)).state }
stepped s k args list bytes t r =
    step_goes s 0 (gl_call k args list bytes) (ap (λ (r : ThreadRecord). r.wait) t.is) ∙ gl_done s 0 2 k (gl_call k args list bytes) (current s t) r

pub goes : (s : State) (k : GlKind) (args list : List ℤ) (bytes : Option (List ℕ)) (f : Effect) (P : State → Type 0) → IsThread s → gl_refusal s 0 2 k (gl_call k args list bytes) ≡ None →
    gl_effect s 0 2 k (gl_call k args list bytes) ≡ f → f.waits ≡ false → P (sweep f.state) → Goes s (gl_call k args list bytes) P
goes s k args list bytes f P t r e w p =
    let all = stepped s k args list bytes t r in
    record {
      done = ap (λ (x : Stepped). x.reply.outcome) all ∙ ap outcome_of e ∙ ap (λ b. cond b Waiting Done) w;
      holds = subst P (sym (ap (λ (x : Stepped). x.state) all ∙ ap (λ (x : Effect). sweep x.state) e)) p;
    }

-- ---- The context's own part.
pub part_is : (s : State) (v : View) (b : ℕ) → Stands s v b → part_of_context s 2 ≡ Some (settings v)
part_is s v b t = ap (λ o. option_and_then (λ c. c.part) (as_context o)) t.shows.context_at

pub shows_part : (os : List (Option Object)) (texture : Option ℕ) (name : ℕ) (p q : PartValue) (i : ImageValue) (names : List Name) (f : PartValue → PartValue) → f p ≡ q →
    Shows os (context_with texture name p) i names → Shows (change_part f 2 os) (context_with texture name q) i names
unfolding change_part
shows_part os texture name p q i names f e w = record {
  surface = w.surface;
  surface_at = there os 2 0 _ (omega arith) ∙ w.surface_at;
  surface_storage = w.surface_storage;
  target_at = there os 2 1 _ (omega arith) ∙ w.target_at;
  context_at = here os 2 (with_part f) (Context (context_with texture name p)) w.context_at ∙ ap (λ z. Some (Context (context_with texture name z))) e;
  group_at = there os 2 3 _ (omega arith) ∙ w.group_at;
  long = let l = w.long in let n = length-set os 2 (with_part f (get_or os 2 None)) in omega (arith, l, n);
}

pub bytes_part : (os : List (Option Object)) (texture : Option ℕ) (name : ℕ) (p : PartValue) (i : ImageValue) (names : List Name) (f : PartValue → PartValue) → Shows os (context_with texture name p) i names →
    live_bytes (change_part f 2 os) ≡ live_bytes os
unfolding change_part
bytes_part os texture name p i names f w =
    bytes-set os 2 (with_part f (get_or os 2 None)) (Context (context_with texture name p)) w.context_at (ap (λ o. bytes_in (with_part f o)) w.context_at)

-- ---- glScissor.
-- a call of the context's own state that no row refuses
own_changed : (c : CallValue) (k : GlKind) (p : PartValue) → c.kind ≡ Gl k → AllOff (context_rows k c) → (after_rules (refusal k c) k c p).part ≡ changed k c p
own_changed c k p h off = ap (λ o. (after_rules o k c p).part) (none_on (context_rows k c) off)

scissor_none : (s : State) (x y : ℤ) (w h : ℕ) → Passes s (scissor x y w h)
unfolding gl_refusal
scissor_none s x y w h = refused_not (scissor x y w h) (gl_facts_of s 0 2 (scissor x y w h)) _ refl (or_from _ _ (is_not_below (pos w) (pos 0) (grind (arith, ints))) (is_not_below (pos h) (pos 0) (grind (arith, ints))), tt)

abbrev pub clipped : View → ℤ → ℤ → ℕ → ℕ → View
clipped v x y w h = record v { clip = x ∷ y ∷ pos w ∷ pos h ∷ [] }

scissored : (v : View) (x y : ℤ) (w h : ℕ) → (apply (scissor x y w h) (settings v)).part ≡ settings (clipped v x y w h)
scissored v x y w h = own_changed (scissor x y w h) _ (settings v) refl (or_from _ _ (is_not_below (pos w) (pos 0) (grind (arith, ints))) (is_not_below (pos h) (pos 0) (grind (arith, ints))), tt)

-- what holds of textures behind a call
abbrev pub Keeps : State → View → State → Type 0
Keeps s v a = (name w h : ℕ) (pixel : ℕ → ℕ → Pixel) → Has s.objects v.names name w h pixel → Has a.objects v.names name w h pixel

pub record Clipped (s : State) (v : View) (b : ℕ) (x y : ℤ) (w h : ℕ) (a : State) : Type 0 where
  pub stands : Stands a (clipped v x y w h) b
  pub keeps : Keeps s v a

pub scissor_goes : (s : State) (v : View) (b : ℕ) (x y : ℤ) (w h : ℕ) → Stands s v b → Goes s (scissor x y w h) (Clipped s v b x y w h)
unfolding change_part
scissor_goes s v b x y w h t =
    let c : CallValue = scissor x y w h in
    let a : State = applied s 2 c in
    let shows = shows_part s.objects v.texture v.name (settings v) (settings (clipped v x y w h)) v.target v.names (λ p. (apply c p).part) (scissored v x y w h) t.shows in
    let bytes = bytes_part s.objects v.texture v.name (settings v) v.target v.names (λ p. (apply c p).part) t.shows in
    let thread : IsThread a = record { is = t.thread.is; video = t.thread.video } in
    let stands : Stands a (clipped v x y w h) b = record { thread = thread; shows = shows; few = let f = t.few in omega (arith, bytes, f) } in
    goes s _ c.args [] None (valued (local_value (part_of_context s 2) c) a) (Clipped s v b x y w h) t.thread (scissor_none s x y w h) refl refl (record {
      stands = stands_swept a (clipped v x y w h) b stands;
      keeps = λ name k l pixel i. has_swept a v.texture v.name (settings (clipped v x y w h)) v.target v.names name k l pixel thread shows
          (has_low s.objects v.names name k l pixel 2 _ (omega arith) i);
    })
