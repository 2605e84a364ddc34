-- What a draw to a thread's own surface leaves.
use Rattle.std.proofs.Common.{◌≡◌, ℕ, Bool, true, false, refl, sym, ap, ◌∙◌, None, Some, Option}
use Rattle.std.specs.Prelude.{nat_eq, not, slice_index_or, ◌==◌}
use Rattle.egl_calls.specs.Calls.{CallValue}
use Rattle.egl_calls.specs.declared.kinds.Kind.{Kind}
use Rattle.egl_calls.specs.declared.kinds.Kind.TheVariants.{Gl}
use Rattle.egl_calls.specs.declared.kinds.GlKind.{GlKind}
use Rattle.context_state.specs.Parts.{PartValue}
use Rattle.pixel_rows.specs.declared.rects.Rect.{Rect}
use Rattle.rect_pipeline.specs.Samplers.{SamplerValue}
use Rattle.egl_model.specs.Currents.{current_context, part_of_context}
use Rattle.egl_model.specs.Draws.{drawn_rect, sampler}
use Rattle.egl_model.specs.GlCalls.{gl_refusal}
use Rattle.egl_model.specs.Parts.{at_place, own_of, part_in, part_of}
use Rattle.egl_model.specs.State.{State}
use Rattle.egl_model.specs.Step.{Stepped, step}
use Rattle.egl_model.specs.Sweep.{sweep}
use Rattle.model_laws.specs.Frame.{IsReady}
use Rattle.model_laws.specs.Hidden.{hide}
use Rattle.model_laws.specs.Late.{drawing, drawn_state, draws_to_surface, is_late, late_rect, late_sampler, late_step, sampled_by, texture_sampler}
use Rattle.model_laws.proofs.Parts.LateDraws.{late_by_refusal, late_outside, own_context}
use Rattle.driver_core.specs.LateDraws.{IsLeft, drawn_late, sampler_of}
use Rattle.driver_core.specs.Machine.{Machine, outs}
use Rattle.driver_core.specs.declared.drawings.Drawing.{Drawing}
use Rattle.driver_core.proofs.OutsideLaws.{is_in}

-- whether a thread draws to its surface, by its current context
pub surface_none : (s : State) (t : ℕ) → current_context s t ≡ None → false ≡ draws_to_surface (own_of s t).context
unfolding at_place
surface_none s t h = sym (ap (λ (p : Option ℕ). draws_to_surface (at_place part_in p s.objects)) h)

pub surface_by : (s : State) (t n : ℕ) (x : Option PartValue) → current_context s t ≡ Some n → x ≡ part_of_context s n → draws_to_surface x ≡ draws_to_surface (own_of s t).context
surface_by s t n x h e = ap draws_to_surface (e ∙ sym (own_context s t n h))

twice : (b : Bool) → b ≡ not (not b)
twice true = refl
twice false = refl

pub unbound_twice : (k : ℕ) → nat_eq k 0 ≡ not (not (k == 0))
unbound_twice k = twice (k == 0)

-- what is sampled by the context at its number
pub sampled_at : (s : State) (t n : ℕ) (k : GlKind) (c : CallValue) → c.kind ≡ Gl k → current_context s t ≡ Some n → sampled_by (part_of_context s n) (sampler s n (drawn_rect k c)) ≡ late_sampler s t c
sampled_at s t n k c kind h =
    ap (λ (m : Kind). sampled_by (part_of_context s n) (sampler s n (late_rect m c))) (sym kind)
    ∙ ap (λ (x : Option PartValue). sampled_by x (sampler s n (late_rect c.kind c))) (sym (own_context s t n h))
    ∙ ap (λ (o : Option ℕ). sampled_by (own_of s t).context (texture_sampler s o (late_rect c.kind c))) (sym h)

-- no rule refuses it
pub late_done : (s : State) (t n : ℕ) (k : GlKind) (c : CallValue) → sweep s ≡ s → c.kind ≡ Gl k → current_context s t ≡ Some n → is_late (part_of s t) c ≡ true → gl_refusal s t n k c ≡ None → step s t c ≡ late_step s t c None
late_done s t n k c clean kind h late refusal = late_by_refusal s t n k c clean kind h late ∙ ap (late_step s t c) refusal

with_left : (s : State) (t : ℕ) (c : CallValue) (from : Option SamplerValue) (r : Rect) (d : Drawing) → sampler_of d.from ≡ from → d.rect ≡ r → drawn_state s t (drawing (own_of s t).context from r) ≡ drawn_late s t (Some d)
with_left s t c from r d e f =
    ap (λ o. drawn_state s t (drawing (own_of s t).context o r)) (sym e) ∙ ap (λ z. drawn_state s t (drawing (own_of s t).context (sampler_of d.from) z)) (sym f)

-- once what is left is drawn the state is that after the step
pub left_state : (s : State) (t : ℕ) (c : CallValue) (d : Drawing) → step s t c ≡ late_step s t c None → sampler_of d.from ≡ late_sampler s t c → d.rect ≡ late_rect c.kind c → (step s t c).state ≡ drawn_late s t (Some d)
left_state s t c d is e f = ap (λ (x : Stepped). x.state) is ∙ with_left s t c (late_sampler s t c) (late_rect c.kind c) d e f

-- and so is any state for which the driver stands outside the parts that are out
pub left_outside : (x y : Machine) (t : ℕ) (c : CallValue) (d : Drawing) → IsLeft x t c (Some d) y → (s : State) → IsReady s t → slice_index_or x.away t false ≡ false → x.state ≡ hide (outs x.away) s → (step s t c).state ≡ drawn_late s t (Some d)
left_outside x y t c d l s r here hidden =
    late_outside s x.state t c (outs x.away) r (is_in x.away t here) hidden l.1 l.2
    ∙ with_left s t c (late_sampler x.state t c) (late_rect c.kind c) d l.3 l.4
