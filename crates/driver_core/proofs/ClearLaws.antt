-- A surface to which a thread draws has its pixels for its own.
use Rattle.std.proofs.Common.{◌≡◌, ℕ, ◌==◌, true, cond, not, List, refl, sym, ap, ◌∙◌, Option, None, Some}
use Rattle.std.specs.Prelude.{unwrap_or}
use Rattle.std.specs.Option.{option_and_then, option_map}
use Rattle.std.proofs.lemmas.Option.{none-some}
use Rattle.egl_calls.specs.declared.kinds.Kind.TheVariants.{Gl}
use Rattle.egl_calls.specs.declared.kinds.GlKind.TheVariants.{Clear}
use Rattle.framebuffer_objects.specs.Framebuffers.{fresh}
use Rattle.driver_objects.specs.declared.objects.Object.{Object}
use Rattle.driver_objects.specs.declared.objects.Object.TheVariants.{Storage}
use Rattle.driver_objects.specs.declared.surfaces.BackedSurface.{BackedSurface}
use Rattle.egl_model.specs.declared.records.Bound.{Bound}
use Rattle.egl_model.specs.Currents.{bound_surface, current_context, draw_storage}
use Rattle.egl_model.specs.Framebuffers.{BoundFramebuffer, bound_framebuffer, current_framebuffer_name, framebuffer_of, object_framebuffer, window_framebuffer}
use Rattle.egl_model.specs.Objects.{as_storage, storage_in}
use Rattle.egl_model.specs.State.{State, object_at, record_of}
use Rattle.model_laws.specs.Hidden.{hide}
use Rattle.model_laws.specs.Shapes.{shapes}
use Rattle.model_laws.specs.Sound.{IsSound, IsWhole}
use Rattle.model_laws.proofs.Changes.Moves.{frozen_in}
use Rattle.model_laws.proofs.References.Places.{frozen_at-shapes, own_at-shapes}
use Rattle.model_laws.proofs.Changes.PutMoves.{surface_link}
use Rattle.model_laws.proofs.Steps.StepPut.{whole-hide}
use Rattle.object_table.specs.Memory.{is_own_in}
use Rattle.driver_facts.specs.Memory.{clears_own, draws_to_own}

thawed : (o : Option Object) → is_own_in (as_storage o) ≡ not (frozen_in o)
thawed None = refl
thawed (Some (Storage v)) = refl
thawed (Some o) = refl

-- the storage of a surface that is bound
own_bound : (s : State) (b : Option Bound) (q : Option ℕ) → IsWhole (shapes s.objects) s → option_map (λ (x : BackedSurface). x.storage) (bound_surface s b) ≡ q → is_own_in (option_and_then (storage_in s.objects) q) ≡ true
own_bound s b None w e = refl
own_bound s None (Some n) w e = absurd (none-some n e)
own_bound s (Some b) (Some n) w e =
    thawed (object_at s n) ∙ ap not (sym (frozen_at-shapes s.objects n) ∙ w.thawed.each b.object n (own_at-shapes s.objects b.object ∙ sym (surface_link (object_at s b.object)) ∙ e))

window_bound : (s : State) (t : ℕ) → current_framebuffer_name s t ≡ 0 → bound_framebuffer s t ≡ window_framebuffer s t
window_bound s t h = ap (λ (m : ℕ). cond (m == 0) (window_framebuffer s t) (object_framebuffer s.objects (unwrap_or (option_and_then (framebuffer_of s) (current_context s t)) fresh))) h

draws_own : (s : State) (t : ℕ) → IsWhole (shapes s.objects) s → current_framebuffer_name s t ≡ 0 → draws_to_own s t ≡ true
draws_own s t w h =
    ap (λ (b : BoundFramebuffer). is_own_in (option_and_then (storage_in s.objects) b.draw)) (window_bound s t h)
    ∙ own_bound s (record_of s t).draw (draw_storage s t) w refl

pub clears_surface : (s : State) (out : List ℕ) (t : ℕ) → IsSound s → current_framebuffer_name (hide out s) t ≡ 0 → clears_own (hide out s) t (Gl Clear) ≡ true
clears_surface s out t h e = draws_own (hide out s) t (whole-hide out s h.whole) e
