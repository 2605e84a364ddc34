-- The laws of frame hold of the private part.
use Rattle.std.proofs.Common.{◌≡◌, ℕ, ◌<◌, Bool, true, false, cond, refl, sym, ap, ◌∙◌, arith, length, Option, None, Some, is_some}
use Rattle.std.specs.Option.{option_map, option_map_or}
use Rattle.std.proofs.lemmas.Option.{none-some}
use Rattle.egl_calls.specs.Calls.{CallValue}
use Rattle.egl_calls.specs.declared.kinds.Kind.{Kind}
use Rattle.egl_calls.specs.declared.kinds.Kind.TheVariants.{Egl, Gl, Own as OwnCall}
use Rattle.egl_calls.specs.declared.kinds.GlKind.{GlKind}
use Rattle.call_table.specs.Rows.{gl_role}
use Rattle.call_table.specs.declared.roles.Role.{Role}
use Rattle.call_table.specs.declared.roles.Role.TheVariants.{Clears}
use Rattle.egl_calls.specs.declared.errors.EglError.{EglError}
use Rattle.egl_calls.specs.declared.errors.GlError.{GlError}
use Rattle.context_state.specs.Kinds.{context_gl_call}
use Rattle.context_state.specs.Parts.{PartValue}
use Rattle.driver_objects.specs.Storages.{cleared_image}
use Rattle.driver_objects.specs.declared.objects.Object.{Object}
use Rattle.driver_objects.specs.declared.objects.Object.TheVariants.{Context, Storage}
use Rattle.driver_objects.specs.declared.surfaces.BackedSurface.{BackedSurface}
use Rattle.egl_model.specs.declared.records.Bound.{Bound}
use Rattle.egl_model.specs.declared.records.ThreadRecord.{ThreadRecord}
use Rattle.egl_model.specs.State.{State, object_at, record_of}
use Rattle.egl_model.specs.Objects.{as_context, as_storage}
use Rattle.egl_model.specs.Currents.{bound_surface, current_context, draw_storage, read_storage, display_at, handle_of}
use Rattle.egl_model.specs.Drawing.{clears_colour}
use Rattle.egl_model.specs.Step.{Stepped, step}
use Rattle.call_rules.specs.GlRules as gl_rules
use Rattle.model_laws.specs.Shapes.{shapes}
use Rattle.model_laws.specs.Sound.{IsWhole}
use Rattle.model_laws.proofs.Steps.Blinds.{context-blind}
use Rattle.model_laws.proofs.Steps.StepKeeps.{keeps-step, sound-step}
use Rattle.model_laws.specs.Frame.{HasFrame, IsReady, as_step}
use Rattle.model_laws.specs.Full.{Full}
use Rattle.egl_model.specs.Parts.{Kept, Own, OwnObjects, Private, are_same, at_place, image_in, kept_of, own_at, own_of, part_in, part_of, own_objects, put_at, put_own}
use Rattle.model_laws.specs.Local.{LocalEffect, after_rules, by_kind, egl_locally, egl_value, facts_locally, gl_locally, gl_with, in_wait, is_local, local_refusal, locally, locally_by, object_locally, part_after}
use Rattle.model_laws.proofs.Changes.Writes.{blind-written}
use Rattle.model_laws.proofs.Parts.Puts.{distinct-own_objects, own_objects-put, record-put, same_context, same_draw, same_read}
use Rattle.model_laws.proofs.Parts.OtherParts.{HasNoMore, fits, is_context_there, is_storage_there, no_more, own_at-put, part-step}
use Rattle.model_laws.proofs.Parts.Locals.{HasOwn, local_step}

-- ---- A state is ready again after each step, and then the thread's part is in.
pub ready-step : (s : State) (t u : ℕ) (c : CallValue) → IsReady s t → IsReady (step s u c).state t
ready-step s t u c r = record { sound = sound-step s u c r.sound; thread = let e = (keeps-step s u c).frame.count in let l = r.thread in omega (arith, e, l) }

part_of_full : (o : Option Object) → is_some (as_context o) ≡ true → Full o → is_some (part_in o) ≡ true
part_of_full (Some (Context c)) h f = f.there
part_of_full o h f = absurd (let e : false ≡ true = h in cc)

has_part : (s : State) (t : ℕ) → IsReady s t → is_some (own_of s t).context ≡ is_some (current_context s t)
unfolding at_place
has_part s t r = at_context (current_context s t) refl
  where
    at_context : (o : Option ℕ) → current_context s t ≡ o → is_some (at_place part_in o s.objects) ≡ is_some o
    at_context None e = refl
    at_context (Some n) e = part_of_full (object_at s n) (is_context_there s t n r.sound.whole e) (r.sound.full.each n)

image_of_full : (o : Option Object) → is_some (as_storage o) ≡ true → Full o → is_some (image_in o) ≡ true
image_of_full (Some (Storage v)) h f = f.1
image_of_full o h f = absurd (let e : false ≡ true = h in cc)

-- the pixels of a surface that is bound
pub has_image : (s : State) (t : ℕ) (b : Option Bound) (q : Option ℕ) → IsReady s t → option_map (λ (x : BackedSurface). x.storage) (bound_surface s b) ≡ q → is_some (at_place image_in q s.objects) ≡ is_some q
unfolding at_place
has_image s t b None r e = refl
has_image s t b (Some n) r e = image_of_full (object_at s n) (is_storage_there s b n r.sound.whole e) (r.sound.full.each n)

pub has_own : (s : State) (t : ℕ) → IsReady s t → HasOwn s t
has_own s t r = record { part = has_part s t r; image = has_image s t (record_of s t).draw (draw_storage s t) r refl }

-- ---- A local call leaves nothing where there was nothing.
record IsWithin (y x : Own) : Type 0 where
  pub context : x.context ≡ None → y.context ≡ None
  pub draw : x.draw ≡ None → y.draw ≡ None
  pub read : x.read ≡ None → y.read ≡ None

within_itself : (x : Own) (e : EglError) → IsWithin (record x { error = e }) x
within_itself x e = record { context = λ h. h; draw = λ h. h; read = λ h. h }

within-context : (x : Own) (q r : PartValue) → x.context ≡ Some q → IsWithin (record x { context = Some r }) x
within-context x q r h = record { context = λ i. absurd (none-some q (sym i ∙ h)); draw = λ i. i; read = λ i. i }

none_still : {A : Type 0} (f : A → A) (x : Option A) → x ≡ None → option_map f x ≡ None
none_still f None h = refl
none_still f (Some x) h = absurd (none-some x (sym h))

either_within : (b : Bool) (x y : Own) → IsWithin y x → IsWithin (cond b y x) x
either_within true x y h = h
either_within false x y h = within_itself x x.error

-- a case for each role of another local call of OpenGL ES
within-object : (p : Private) (q : PartValue) (c : CallValue) (r : Role) → IsWithin (object_locally r p q c).own p.own
within-object p q c Clears = either_within (clears_colour c) p.own (record p.own { draw = option_map (cleared_image q) p.own.draw }) (record { context = λ i. i; draw = none_still (cleared_image q) p.own.draw; read = λ i. i })
within-object p q c r = within_itself p.own p.own.error

within-by : (o : Option GlKind) (p : Private) (q : PartValue) (c : CallValue) (k : GlKind) → p.own.context ≡ Some q → IsWithin (locally_by o p q k c).own p.own
within-by (Some own) p q c k h = within-context p.own q _ h
within-by None p q c k h = within-object p q c (gl_role k)

within-gl : (p : Private) (q : PartValue) (c : CallValue) (k : GlKind) → p.own.context ≡ Some q → IsWithin (gl_locally p q k c).own p.own
within-gl p q c k h = within-by (context_gl_call k) p q c k h

within-rules : (p : Private) (q : PartValue) (o : Option GlError) (f : LocalEffect) → p.own.context ≡ Some q → IsWithin f.own p.own → IsWithin (after_rules p.own q o f).own p.own
within-rules p q (Some e) f h w = within-context p.own q _ h
within-rules p q None f h w = w

within-with : (p : Private) (o : Option PartValue) (c : CallValue) (k : GlKind) → p.own.context ≡ o → IsWithin (gl_with p o k c).own p.own
within-with p None c k h = within_itself p.own p.own.error
within-with p (Some q) c k h = within-rules p q (gl_rules.gl_refusal c (facts_locally p)) (gl_locally p q k c) h (within-gl p q c k h)

within-egl : (p : Private) (o : Option EglError) (v : _) → IsWithin (egl_locally p o v).own p.own
within-egl p (Some e) v = within_itself p.own e
within-egl p None v = within_itself p.own _

within-kind : (p : Private) (c : CallValue) (k : Kind) → IsWithin (by_kind p k c).own p.own
within-kind p c (Egl k) = within-egl p (local_refusal c) (egl_value p k c)
within-kind p c (Gl k) = within-with p p.own.context c k refl
within-kind p c (OwnCall k) = within_itself p.own p.own.error

within-wait : (p : Private) (c : CallValue) (b : Bool) → IsWithin (in_wait b p c).own p.own
within-wait p c true = within_itself p.own p.own.error
within-wait p c false = within-kind p c c.kind

within : (p : Private) (c : CallValue) → IsWithin (locally p c).own p.own
unfolding locally
within p c = within-wait p c p.kept.waits

no_more-locally : (s : State) (t : ℕ) (c : CallValue) → HasNoMore (own_objects s t) (locally (part_of s t) c).own
no_more-locally s t c = let m = no_more (own_objects s t) t s in let w = within (part_of s t) c in
    record { context = λ h. w.context (m.context h); draw = λ h. w.draw (m.draw h); read = λ h. w.read (m.read h) }

-- ---- What is put is the thread's own then, and what else the part has stays.
display-put : (p : OwnObjects) (t : ℕ) (x : Own) (s : State) (o : Option ℕ) → display_at (put_at p t x s) o ≡ display_at s o
display-put p t x s None = refl
display-put p t x s (Some n) = blind-written (λ o. option_map_or (λ x. x.display) (as_context o) 0) (context-blind (λ o. option_map_or (λ x. x.display) o 0) (λ c x. refl)) p x s.objects n

-- what is kept, of a record, a display, and the storages
abbrev kept : ThreadRecord → ℕ → Bool → Kept
kept r d same = record { api = r.api; display = d; context = handle_of r.context; draw = handle_of r.draw; read = handle_of r.read; waits = is_some r.wait; same = same }

pub kept-put : (s : State) (p : OwnObjects) (t u : ℕ) (x : Own) → kept_of (put_at p t x s) u ≡ kept_of s u
kept-put s p t u x =
    let a = put_at p t x s in
    let e = display-put p t x s (current_context a u) ∙ ap (display_at s) (same_context s p t u x) in
    let f = record-put (λ r. kept r (display_at a (current_context a u)) (are_same (draw_storage a u) (read_storage a u))) (λ r e. refl) s t u x.error in
    let j = ap (λ n. are_same n (read_storage a u)) (same_draw s p t u x) ∙ ap (are_same (draw_storage s u)) (same_read s p t u x) in
    f ∙ ap (λ d. kept (record_of s u) d (are_same (draw_storage a u) (read_storage a u))) e ∙ ap (kept (record_of s u) (display_at s (current_context s u))) j

abbrev both : Kept → Own → Private
both k x = record { kept = k; own = x }

pub own-put : (s : State) (t : ℕ) (x : Own) → IsWhole (shapes s.objects) s → t < length s.threads → HasNoMore (own_objects s t) x → own_of (put_own s t x) t ≡ x
own-put s t x h l m =
    ap (λ (p : OwnObjects). own_at p t (put_own s t x)) (own_objects-put s (own_objects s t) t t x)
    ∙ own_at-put (own_objects s t) t x s (distinct-own_objects s t) (fits s t x h l m)

part-put : (s : State) (t : ℕ) (x : Own) → IsWhole (shapes s.objects) s → t < length s.threads → HasNoMore (own_objects s t) x → part_of (put_own s t x) t ≡ record (part_of s t) { own = x }
part-put s t x h l m = ap (λ k. both k (own_of (put_own s t x) t)) (kept-put s (own_objects s t) t t x) ∙ ap (both (kept_of s t)) (own-put s t x h l m)

-- ---- The laws.
pub local_as_step : (s : State) (t : ℕ) (c : CallValue) → IsReady s t → is_local (part_of s t) c ≡ true → step s t c ≡ as_step s t (locally (part_of s t) c)
local_as_step s t c r l = local_step s t c r.sound (has_own s t r) l

pub part-local : (s : State) (t : ℕ) (c : CallValue) → IsReady s t → is_local (part_of s t) c ≡ true → part_of (step s t c).state t ≡ part_after (part_of s t) c
part-local s t c r l = ap (λ (x : Stepped). part_of x.state t) (local_as_step s t c r l) ∙ part-put s t (locally (part_of s t) c).own r.sound.whole r.thread (no_more-locally s t c)

pub has_frame : HasFrame part_of is_local (λ p c. (locally p c).reply) part_after IsReady
has_frame = record {
  ready = ready-step;
  other = λ s t u c r ne. part-step s t u c r.sound.whole ne r.thread;
  reply = λ s t c r l. ap (λ (x : Stepped). x.reply) (local_as_step s t c r l);
  part = part-local;
}
