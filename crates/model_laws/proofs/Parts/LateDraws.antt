-- A draw that comes late changes only what is out.
use Rattle.std.proofs.Common.{◌≡◌, ◌≢◌, ◌==◌, ◌&&◌, ◌||◌, ℕ, pos, Bool, true, false, cond, not, List, [], ◌∷◌, inl, inr, refl, sym, ap, ◌∙◌, Option, None, Some, is_some}
use Rattle.std.specs.Option.{option_map}
use Rattle.std.proofs.lemmas.Bool.{and_parts, cases_eq}
use Rattle.std.proofs.lemmas.Option.{none-some}
use Rattle.pixel_rows.specs.Images.{ImageValue}
use Rattle.pixel_rows.specs.declared.rects.Rect.{Rect}
use Rattle.rect_pipeline.specs.Samplers.{SamplerValue}
use Rattle.egl_calls.specs.Calls.{CallValue}
use Rattle.egl_calls.specs.declared.errors.GlError.{GlError}
use Rattle.egl_calls.specs.declared.errors.Outcome.TheVariants.{Done, Gl as RefusedGl}
use Rattle.egl_calls.specs.declared.kinds.Kind.{Kind}
use Rattle.egl_calls.specs.declared.kinds.Kind.TheVariants.{Gl}
use Rattle.egl_calls.specs.declared.kinds.GlKind.{GlKind}
use Rattle.egl_calls.specs.declared.kinds.GlKind.TheVariants.{GetError as GlGetError}
use Rattle.call_table.specs.Roles.{draws, takes_pixels}
use Rattle.call_table.specs.Rows.{gl_role}
use Rattle.call_table.specs.declared.roles.Role.{Role}
use Rattle.call_table.specs.declared.roles.Role.TheVariants.{Draws}
use Rattle.context_state.specs.Parts.{PartValue, noted}
use Rattle.driver_objects.specs.Storages.{drawn_image, drawn_storage}
use Rattle.egl_model.specs.Currents.{current_context, draw_storage, part_of_context}
use Rattle.egl_model.specs.Draws.{draw_into, drawn, drawn_rect, sampler}
use Rattle.egl_model.specs.Effects.{valued}
use Rattle.egl_model.specs.Framebuffers.{BoundFramebuffer, bound_framebuffer, is_complete}
use Rattle.egl_model.specs.GlCalls.{gl_effect, gl_refusal}
use Rattle.egl_model.specs.GlFacts.{gl_facts_of}
use Rattle.egl_model.specs.Parts.{Kept, Own, Private, at_place, kept_of, own_of, part_in, part_of, own_objects, put_at, put_own}
use Rattle.egl_model.specs.State.{State, record_of}
use Rattle.egl_model.specs.Step.{Stepped, after_gl_rules, bare, gl_step, gl_step_on, note_error, step, step_by, step_in}
use Rattle.egl_model.specs.Sweep.{sweep}
use Rattle.model_laws.specs.Frame.{IsNone, IsReady}
use Rattle.model_laws.specs.Hidden.{hide, nothing}
use Rattle.model_laws.specs.Late.{IsOut, drawing, drawn_own, drawn_part, drawn_state, draws_to_surface, is_draw, is_late, late_rect, late_refusal, late_sampler, late_step, sampled_by, texture_sampler}
use Rattle.model_laws.specs.Local.{facts_locally, is_unbound}
use Rattle.model_laws.specs.Shapes.{shapes}
use Rattle.model_laws.specs.Sound.{IsWhole}
use Rattle.model_laws.proofs.Steps.Blinds.{blind-current}
use Rattle.model_laws.proofs.Calls.DrawCalls.{blind-sampler}
use Rattle.model_laws.proofs.Steps.Framing.{has_own, kept-put, own-put}
use Rattle.model_laws.proofs.Changes.Keeps.{Blind}
use Rattle.model_laws.proofs.Parts.Locals.{bound-local, complete-local, image_as_put, nothing_to_draw_on, part_as_put, rows_alike, sweep_clean, refusal_by_rows}
use Rattle.model_laws.proofs.Parts.OtherParts.{HasNoMore, no_more}
use Rattle.model_laws.proofs.Parts.Puts.{put-put}
use Rattle.model_laws.proofs.Parts.PutWhole.{puts_apart, whole-put}
use Rattle.model_laws.proofs.Parts.Returns.{own-hide}
use Rattle.model_laws.proofs.Changes.PutMoves.{sweep-put}
use Rattle.model_laws.proofs.Steps.StepLaws.{gl_refused}
use Rattle.model_laws.proofs.Steps.StepPut.{answered, hide-step, whole-hide}

-- ---- What is put where a part is out.
-- where other parts are out, what is put for t may be put before them
put_under : (s : State) (t u : ℕ) (ts : List ℕ) (x : Own) → t ≢ u → IsWhole (shapes s.objects) s → put_own (put_own (hide ts s) u nothing) t x ≡ put_own (put_own (hide ts s) t x) u nothing
put_under s t u ts x ne w = puts_apart (hide ts s) t u x nothing ne (whole-hide ts s w)

-- what was put for a thread is gone once anything else is, whatever parts are out
put-hide-put : (s : State) (t : ℕ) (ts : List ℕ) (x : Own) → IsWhole (shapes s.objects) s → put_own (hide ts (put_own s t x)) t nothing ≡ put_own (hide ts s) t nothing
put-hide-put s t [] x w = put-put s t nothing x
put-hide-put s t (u ∷ ts) x w = elim (cases_eq t u) [
  | inl e ↦ ap (λ v. put_own (put_own (hide ts (put_own s t x)) v nothing) t nothing) (sym e) ∙ put-put (hide ts (put_own s t x)) t nothing nothing
      ∙ put-hide-put s t ts x w
      ∙ sym (put-put (hide ts s) t nothing nothing) ∙ ap (λ v. put_own (put_own (hide ts s) v nothing) t nothing) e
  | inr ne ↦ put_under (put_own s t x) t u ts nothing ne (whole-put t x s w)
      ∙ ap (λ (y : State). put_own y u nothing) (put-hide-put s t ts x w)
      ∙ sym (put_under s t u ts nothing ne w)
]

pub unseen : (s : State) (t : ℕ) (ts : List ℕ) (x : Own) → IsWhole (shapes s.objects) s → IsOut t ts → hide ts (put_own s t x) ≡ hide ts s
unseen s t [] x w i = absurd i
unseen s t (u ∷ ts) x w (inl e) =
    ap (λ v. put_own (hide ts (put_own s t x)) v nothing) e ∙ put-hide-put s t ts x w ∙ ap (λ v. put_own (hide ts s) v nothing) (sym e)
unseen s t (u ∷ ts) x w (inr i) = ap (λ (y : State). put_own y u nothing) (unseen s t ts x w i)

pub draws_unseen : (s : State) (t : ℕ) (f : ImageValue → ImageValue) (out : List ℕ) → IsReady s t → IsOut t out → hide out (drawn_state s t f) ≡ hide out s
draws_unseen s t f out r i = unseen s t out (drawn_own f (own_of s t)) r.sound.whole i

-- ---- The part.
none_still : (f : ImageValue → ImageValue) (x : Option ImageValue) → x ≡ None → option_map f x ≡ None
none_still f None h = refl
none_still f (Some x) h = absurd (none-some x (sym h))

no_more_drawn : (s : State) (t : ℕ) (f : ImageValue → ImageValue) → HasNoMore (own_objects s t) (drawn_own f (own_of s t))
no_more_drawn s t f = let m = no_more (own_objects s t) t s in
    record { context = m.context; draw = λ h. none_still f (own_of s t).draw (m.draw h); read = m.read }

abbrev both : Kept → Own → Private
both k x = record { kept = k; own = x }

pub part_drawn : (s : State) (t : ℕ) (f : ImageValue → ImageValue) → IsReady s t → part_of (drawn_state s t f) t ≡ drawn_part f (part_of s t)
part_drawn s t f r =
    let x = drawn_own f (own_of s t) in
    ap (λ k. both k (own_of (put_own s t x) t)) (kept-put s (own_objects s t) t t x)
    ∙ ap (both (kept_of s t)) (own-put s t x r.sound.whole r.thread (no_more_drawn s t f))

-- ---- What a draw samples.
blind-texture_sampler : (t : ℕ) (r : Rect) (s : State) → Blind t s (λ a. texture_sampler a (current_context a t) r)
blind-texture_sampler t r s w v x ne = ap (λ o. texture_sampler (put_own s v x) o r) (blind-current t s w v x ne) ∙ by (current_context s t)
  where
    by : (o : Option ℕ) → texture_sampler (put_own s v x) o r ≡ texture_sampler s o r
    by None = refl
    by (Some n) = blind-sampler t n r s w v x ne

-- what a thread looks at is there while other parts are out
seen : {A : Type 0} (t : ℕ) (look : State → A) → ((a : State) → Blind t a look) → (ts : List ℕ) (s : State) → IsWhole (shapes s.objects) s → IsNone t ts → look (hide ts s) ≡ look s
seen t look b [] s w i = refl
seen t look b (u ∷ ts) s w i = b (hide ts s) (whole-hide ts s w) u nothing i.0 ∙ seen t look b ts s w i.1

pub sampler_seen : (s : State) (t : ℕ) (c : CallValue) (out : List ℕ) → IsReady s t → IsNone t out → late_sampler (hide out s) t c ≡ late_sampler s t c
sampler_seen s t c out r i =
    let rect = late_rect c.kind c in
    ap (λ (x : Own). sampled_by x.context (texture_sampler (hide out s) (current_context (hide out s) t) rect)) (own-hide s t out r.sound.whole r.thread i)
    ∙ ap (sampled_by (own_of s t).context) (seen t (λ a. texture_sampler a (current_context a t) rect) (blind-texture_sampler t rect) out s r.sound.whole i)

-- ---- The step.
-- to draw to a surface is to put other pixels for the thread
into_surface : (s : State) (t : ℕ) (q : PartValue) (d : Option ℕ) (from : Option SamplerValue) (r : Rect) → draw_storage s t ≡ d →
    draw_into (Some q) d from r s ≡ drawn_state s t (drawn_image q (cond q.is_texture_enabled from None) r)
into_surface s t q None from r e = nothing_to_draw_on s t (drawn_image q (cond q.is_texture_enabled from None) r) e
into_surface s t q (Some m) from r e = let f : Option SamplerValue = cond q.is_texture_enabled from None in image_as_put s t m (drawn_image q f r) (drawn_storage q f r) (λ v. refl) e

drawn-late : (s : State) (t n : ℕ) (q : PartValue) (k : GlKind) (c : CallValue) → current_context s t ≡ Some n → part_of_context s n ≡ Some q → is_unbound (Some q) ≡ true →
    drawn s t n k c ≡ drawn_state s t (drawn_image q (cond q.is_texture_enabled (sampler s n (drawn_rect k c)) None) (drawn_rect k c))
drawn-late s t n q k c h e u =
    let r = drawn_rect k c in
    ap (λ (b : BoundFramebuffer). draw_into (part_of_context s n) b.draw (sampler s n r) r s) (bound-local s t n q h e u)
    ∙ ap (λ (o : Option PartValue). draw_into o (draw_storage s t) (sampler s n r) r s) e
    ∙ into_surface s t q (draw_storage s t) (sampler s n r) r refl

-- the step with what the part and the state have at their own objects
abbrev step_with : State → ℕ → Rect → Option PartValue → Option ℕ → Option GlError → Stepped
step_with s t r x o (Some e) = record { reply = bare (RefusedGl e); state = put_own s t (record (own_of s t) { context = option_map (noted e) x }) }
step_with s t r x o None = record { reply = bare Done; state = drawn_state s t (drawing x (sampled_by x (texture_sampler s o r)) r) }

by_refusal : (s : State) (t n : ℕ) (q : PartValue) (k : GlKind) (c : CallValue) (o : Option GlError) → sweep s ≡ s → current_context s t ≡ Some n → part_of_context s n ≡ Some q → is_unbound (Some q) ≡ true →
    after_gl_rules s n o (valued (pos 0) (drawn s t n k c)) ≡ step_with s t (drawn_rect k c) (Some q) (Some n) o
by_refusal s t n q k c (Some e) clean h i u = answered _ _ _ (part_as_put s t n (noted e) q h i)
by_refusal s t n q k c None clean h i u =
    let x = drawn_own (drawn_image q (cond q.is_texture_enabled (sampler s n (drawn_rect k c)) None) (drawn_rect k c)) (own_of s t) in
    answered _ _ _ (ap sweep (drawn-late s t n q k c h i u) ∙ sweep-put (own_objects s t) t x s ∙ ap (put_at (own_objects s t) t x) clean)

not_drawn : {A : Type 0} → false ≡ true → A
not_drawn h = absurd (let e : false ≡ true = h in cc)

-- the effect of a draw. A first call has a clause of its own, and the last clause goes by the cases that are left
abbrev DrawnBy : Role → State → ℕ → ℕ → GlKind → CallValue → Type 0
DrawnBy Draws s t n k c = gl_effect s t n k c ≡ valued (pos 0) (drawn s t n k c)
DrawnBy r s t n k c = true ≡ true

drawn_by : (s : State) (t n : ℕ) (k : GlKind) (c : CallValue) → DrawnBy (gl_role k) s t n k c
drawn_by s t n GlGetError c = refl
drawn_by s t n k c = refl

drawn_effect : (r : Role) (s : State) (t n : ℕ) (k : GlKind) (c : CallValue) → draws r ≡ true → DrawnBy r s t n k c → gl_effect s t n k c ≡ valued (pos 0) (drawn s t n k c)
drawn_effect Draws s t n k c d e = e
drawn_effect r s t n k c d e = not_drawn d

by_gl_kind : (s : State) (t n : ℕ) (q : PartValue) (k : GlKind) (c : CallValue) → sweep s ≡ s → current_context s t ≡ Some n → part_of_context s n ≡ Some q → is_unbound (Some q) ≡ true → is_draw (Gl k) ≡ true →
    gl_step s t k c ≡ step_with s t (drawn_rect k c) (Some q) (Some n) (gl_refusal s t n k c)
unfolding gl_step
by_gl_kind s t n q k c clean h i u d =
    ap (λ o. gl_step_on s t o k c) h
    ∙ ap (after_gl_rules s n (gl_refusal s t n k c)) (drawn_effect (gl_role k) s t n k c d (drawn_by s t n k c))
    ∙ by_refusal s t n q k c (gl_refusal s t n k c) clean h i u

-- what the part says of the context and of what it has bound
with_part : (x : Option PartValue) → draws_to_surface x ≡ true → is_some x ≡ true
with_part None h = h
with_part (Some q) h = refl

unbound : (q : PartValue) → draws_to_surface (Some q) ≡ true → is_unbound (Some q) ≡ true
unbound q h = by (q.bound.framebuffer == 0) h
  where
    by : (b : Bool) → not (not b) ≡ true → cond (not b) false true ≡ true
    by true h = refl
    by false h = h

pub own_context : (s : State) (t n : ℕ) → current_context s t ≡ Some n → (own_of s t).context ≡ part_of_context s n
unfolding at_place
own_context s t n h = ap (λ (p : Option ℕ). at_place part_in p s.objects) h

-- what a late draw is
record IsLateKind (s : State) (t : ℕ) (c : CallValue) : Type 0 where
  pub draw : is_draw c.kind ≡ true
  pub goes : not (is_some (record_of s t).wait) ≡ true
  pub surface : draws_to_surface (own_of s t).context ≡ true

late_kind : (s : State) (t : ℕ) (c : CallValue) → is_late (part_of s t) c ≡ true → IsLateKind s t c
late_kind s t c late =
    let a = and_parts (is_draw c.kind) (not (part_of s t).kept.waits && draws_to_surface (own_of s t).context) late in
    let b = and_parts (not (part_of s t).kept.waits) (draws_to_surface (own_of s t).context) a.1 in
    record { draw = a.0; goes = b.0; surface = b.1 }

not_waiting : (s : State) (t : ℕ) (c : CallValue) (o : Option ℕ) → not (is_some o) ≡ true → step_in o s t c ≡ step_by s t c.kind c
not_waiting s t c None h = refl
not_waiting s t c (Some x) h = not_drawn h

pub late_has_context : (s : State) (t : ℕ) (c : CallValue) → is_late (part_of s t) c ≡ true → current_context s t ≡ None → ⊥
unfolding at_place
late_has_context s t c late none =
    not_drawn (ap (λ (p : Option ℕ). draws_to_surface (at_place part_in p s.objects)) (sym none) ∙ (late_kind s t c late).surface)

-- where a rule refuses it
pub late_refused : (s : State) (t n : ℕ) (k : GlKind) (c : CallValue) (e : GlError) → c.kind ≡ Gl k → current_context s t ≡ Some n → is_late (part_of s t) c ≡ true → gl_refusal s t n k c ≡ Some e →
    step s t c ≡ record { reply = bare (RefusedGl e); state = note_error s n e }
unfolding step
late_refused s t n k c e kind h late refusal =
    not_waiting s t c (record_of s t).wait (late_kind s t c late).goes ∙ ap (λ k. step_by s t k c) kind ∙ gl_refused s t n k c e h refusal

-- in any state without litter
pub late_by_refusal : (s : State) (t n : ℕ) (k : GlKind) (c : CallValue) → sweep s ≡ s → c.kind ≡ Gl k → current_context s t ≡ Some n → is_late (part_of s t) c ≡ true →
    step s t c ≡ late_step s t c (gl_refusal s t n k c)
unfolding step
late_by_refusal s t n k c clean kind h late =
    let l = late_kind s t c late in
    not_waiting s t c (record_of s t).wait l.goes
    ∙ ap (λ k. step_by s t k c) kind
    ∙ by_part (own_of s t).context (sym (own_context s t n h)) (ap is_draw (sym kind) ∙ l.draw) l.surface
    ∙ ap (λ (o : Option ℕ). step_with s t (drawn_rect k c) (own_of s t).context o (gl_refusal s t n k c)) (sym h)
    ∙ ap (λ k'. step_with s t (late_rect k' c) (own_of s t).context (current_context s t) (gl_refusal s t n k c)) (sym kind)
    ∙ as_late (gl_refusal s t n k c)
  where
    as_late : (e : Option GlError) → step_with s t (late_rect c.kind c) (own_of s t).context (current_context s t) e ≡ late_step s t c e
    as_late (Some e) = refl
    as_late None = refl

    by_part : (x : Option PartValue) → part_of_context s n ≡ x → is_draw (Gl k) ≡ true → draws_to_surface x ≡ true → gl_step s t k c ≡ step_with s t (drawn_rect k c) x (Some n) (gl_refusal s t n k c)
    by_part None e d u = not_drawn u
    by_part (Some q) e d u = by_gl_kind s t n q k c clean h e (unbound q u) d

-- in a sound one the part tells what refuses it
refusal_by_part : (s : State) (t n : ℕ) (k : GlKind) (c : CallValue) → c.kind ≡ Gl k → IsReady s t → current_context s t ≡ Some n → is_draw (Gl k) ≡ true → draws_to_surface (own_of s t).context ≡ true → gl_refusal s t n k c ≡ late_refusal (part_of s t) c
refusal_by_part s t n k c e r h d u = refusal_by_rows s t n c k (facts_locally (part_of s t)) e
    (rows_alike k c (gl_facts_of s t n c) (facts_locally (part_of s t)) (or_second (takes_pixels (gl_role k)) (draws (gl_role k)) d) (complete (own_of s t).context (sym (own_context s t n h)) u))
  where
    complete : (x : Option PartValue) → part_of_context s n ≡ x → draws_to_surface x ≡ true → is_complete (bound_framebuffer s t) ≡ is_some (own_of s t).draw
    complete None e u = not_drawn u
    complete (Some q) e u = complete-local s t n q (has_own s t r) h e (unbound q u)

    or_second : (a b : Bool) → b ≡ true → (a || b) ≡ true
    or_second true b f = refl
    or_second false b f = f

pub late_as_step : (s : State) (t : ℕ) (c : CallValue) → IsReady s t → is_late (part_of s t) c ≡ true → step s t c ≡ late_step s t c (late_refusal (part_of s t) c)
late_as_step s t c r late = let l = late_kind s t c late in by_current (current_context s t) refl c.kind refl l.draw l.surface
  where
    by_current : (o : Option ℕ) → current_context s t ≡ o → (k : Kind) → c.kind ≡ k → is_draw k ≡ true → draws_to_surface (own_of s t).context ≡ true → step s t c ≡ late_step s t c (late_refusal (part_of s t) c)
    by_current None h k e d u = not_drawn (ap (λ (o : Option ℕ). is_some o) (sym h) ∙ sym (has_own s t r).part ∙ with_part (own_of s t).context u)
    by_current (Some n) h (Gl k) e d u = late_by_refusal s t n k c (sweep_clean s r.sound.litter) e h late ∙ ap (late_step s t c) (refusal_by_part s t n k c e r h d u)
    by_current (Some n) h k e d u = not_drawn d

-- ---- The same in a state from which other parts are out.
kept-hide : (out : List ℕ) (s : State) (t : ℕ) → kept_of (hide out s) t ≡ kept_of s t
kept-hide [] s t = refl
kept-hide (u ∷ us) s t = kept-put (hide us s) (own_objects (hide us s) u) u t nothing ∙ kept-hide us s t

pub part-hide : (s : State) (t : ℕ) (out : List ℕ) → IsReady s t → IsNone t out → part_of (hide out s) t ≡ part_of s t
part-hide s t out r i = ap (λ k. both k (own_of (hide out s) t)) (kept-hide out s t) ∙ ap (both (kept_of s t)) (own-hide s t out r.sound.whole r.thread i)

refused_done : (e : GlError) → RefusedGl e ≡ Done → ⊥
refused_done e h = absurd (let f : RefusedGl e ≡ Done = h in cc)

-- a late draw that is done there is done with the same pixels
pub late_outside : (s d : State) (t : ℕ) (c : CallValue) (out : List ℕ) → IsReady s t → IsNone t out → d ≡ hide out s → is_late (part_of d t) c ≡ true → (step d t c).reply.outcome ≡ Done →
    (step s t c).state ≡ drawn_state s t (drawing (own_of s t).context (late_sampler d t c) (late_rect c.kind c))
late_outside s d t c out r i hidden late done =
    let same : part_of d t ≡ part_of s t = ap (λ (x : State). part_of x t) hidden ∙ part-hide s t out r i in
    let is = late_as_step s t c r (ap (λ (x : Private). is_late x c) (sym same) ∙ late) in
    let answer : (step s t c).reply.outcome ≡ Done = ap (λ (x : Stepped). x.reply.outcome) (sym (ap (λ (x : State). step x t c) hidden ∙ hide-step out s t c r.sound.whole i)) ∙ done in
    by_answer (late_refusal (part_of s t) c) is answer
    ∙ ap (λ o. drawn_state s t (drawing (own_of s t).context o (late_rect c.kind c))) (sym (ap (λ (x : State). late_sampler x t c) hidden ∙ sampler_seen s t c out r i))
  where
    by_answer : (e : Option GlError) → step s t c ≡ late_step s t c e → (step s t c).reply.outcome ≡ Done → (step s t c).state ≡ drawn_state s t (drawing (own_of s t).context (late_sampler s t c) (late_rect c.kind c))
    by_answer (Some e) is done = absurd (refused_done e (ap (λ (x : Stepped). x.reply.outcome) (sym is) ∙ done))
    by_answer None is done = ap (λ (x : Stepped). x.state) is
