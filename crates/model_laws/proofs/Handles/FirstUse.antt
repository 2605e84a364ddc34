-- The sides that a context takes the first time that it is current.
use Rattle.std.proofs.Common.{◌≡◌, ℕ, Bool, true, false, cond, get_or, refl, sym, ap, subst, ◌∙◌, Option, None, Some}
use Rattle.std.specs.Option.{option_map}
use Rattle.context_state.specs.Parts.{PartValue, first_current}
use Rattle.egl_calls.specs.Calls.{CallValue}
use Rattle.egl_calls.specs.declared.errors.EglError.TheVariants.{Success}
use Rattle.egl_calls.specs.declared.kinds.EglKind.TheVariants.{MakeCurrent}
use Rattle.call_rules.specs.EglRules.{is_release}
use Rattle.driver_objects.specs.declared.kinds.ObjectKind.TheVariants.{Context as a_context_kind}
use Rattle.driver_objects.specs.declared.objects.Object.{Object}
use Rattle.driver_objects.specs.declared.objects.Object.TheVariants.{Context}
use Rattle.driver_objects.specs.declared.surfaces.BackedSurface.{BackedSurface}
use Rattle.display_table.specs.declared.handles.Handle.{Handle}
use Rattle.egl_model.specs.declared.records.Bound.{Bound}
use Rattle.egl_model.specs.Currents.{current_context, part_of_context}
use Rattle.egl_model.specs.Flushes.{flushed_to}
use Rattle.egl_model.specs.MakeCurrent.{bound_anew, bound_by, context_handle, draw_handle, first_use, height_of, made_current, width_of}
use Rattle.egl_model.specs.Objects.{change_part, surface_of, with_context, with_part}
use Rattle.egl_model.specs.Parts.{part_in}
use Rattle.egl_model.specs.State.{State, has_object, object_at, set_error}
use Rattle.egl_model.specs.Step.{step}
use Rattle.egl_model.specs.Sweep.{roots, sweep}
use Rattle.model_laws.specs.CurrentCalls.{IsGiven, with_box}
use Rattle.model_laws.specs.Frame.{IsReady}
use Rattle.model_laws.specs.Shapes.{Goes, shapes}
use Rattle.model_laws.proofs.Handles.CurrentLaws.{context_told, if_given}
use Rattle.model_laws.proofs.Waits.FenceLaws.{at_changed, seen_flushed}
use Rattle.model_laws.proofs.Steps.RefusalLaws.{allowed_egl_state}
use Rattle.model_laws.proofs.Steps.StepKeeps.{sound-step}
use Rattle.model_laws.proofs.References.SweepLaws.{left_as_it_was}
use Rattle.model_laws.proofs.References.WholeSweep.{exists_at}

part_flushed : (k : ℕ) (o : Option Object) → part_in (with_context (flushed_to k) o) ≡ part_in o
part_flushed k (Some (Context c)) = refl
part_flushed k o = refl

part_changed : (f : PartValue → PartValue) (o : Option Object) → part_in (with_part f o) ≡ option_map f (part_in o)
part_changed f (Some (Context c)) = refl
part_changed f o = refl

-- the context is still there
is_there : (s : State) (t : ℕ) (c : CallValue) (n : Handle) → IsReady s t → IsGiven s t c n → has_object (step s t c).state n.object ≡ true
is_there s t c n r g =
    let a = (step s t c).state in
    let bound = context_told s t c g.made r.thread g.given ∙ ap bound_by g.names in
    exists_at a a_context_kind n.object (subst (λ (b : Option Bound). Goes (shapes a.objects) a_context_kind (option_map (λ (x : Bound). x.object) b)) bound ((sound-step s t c r.sound).whole.kinds.threads t).0)

-- the objects, with what a context takes the first time
taken_in : (s : State) (c : CallValue) (n : Handle) → context_handle s c ≡ Some n →
    let y = surface_of s (draw_handle s c) in part_in (get_or (first_use (context_handle s c) (draw_handle s c) s.objects) n.object None) ≡ option_map (first_current (width_of y) (height_of y)) (part_of_context s n.object)
unfolding change_part
taken_in s c n e =
    let y = surface_of s (draw_handle s c) in
    let f = first_current (width_of y) (height_of y) in
    ap (λ (o : Option Handle). part_in (get_or (first_use o (draw_handle s c) s.objects) n.object None)) e
    ∙ ap part_in (at_changed (with_part f) refl s.objects n.object)
    ∙ part_changed f (object_at s n.object)

part_after : (s : State) (t : ℕ) (c : CallValue) (n : Handle) → IsReady s t → IsGiven s t c n →
    let y = surface_of s (draw_handle s c) in part_of_context (step s t c).state n.object ≡ option_map (first_current (width_of y) (height_of y)) (part_of_context s n.object)
part_after s t c n r g =
    let d = set_error (made_current s t c) t Success in
    let is = allowed_egl_state s t MakeCurrent c g.made in
    let there : has_object (sweep d) n.object ≡ true = ap (λ (a : State). has_object a n.object) (sym is) ∙ is_there s t c n r g in
    ap (λ (a : State). part_of_context a n.object) is
    ∙ ap part_in (left_as_it_was (roots d) d.objects n.object there)
    ∙ seen_flushed part_in part_flushed (current_context s t) (bound_anew s t c).objects n.object
    ∙ if_given (λ (a : State). part_in (get_or a.objects n.object None) ≡ part_in (get_or (first_use (context_handle s c) (draw_handle s c) s.objects) n.object None)) (is_release c) _ _ g.given refl
    ∙ taken_in s c n g.names

at_part : (w h : ℕ) (b : Bool) (o : Option PartValue) (p : PartValue) → o ≡ Some p → p.was_current ≡ b → option_map (first_current w h) o ≡ Some (cond b p (with_box w h p))
at_part w h b o p e i = ap (option_map (first_current w h)) e ∙ ap (λ (b : Bool). Some (cond b p (with_box w h p))) i

pub takes_sides : (s : State) (t : ℕ) (c : CallValue) (n : Handle) (x : BackedSurface) (p : PartValue) → IsReady s t → IsGiven s t c n → surface_of s (draw_handle s c) ≡ Some x → part_of_context s n.object ≡ Some p → p.was_current ≡ false →
    part_of_context (step s t c).state n.object ≡ Some (with_box x.surface.width x.surface.height p)
takes_sides s t c n x p r g e f i =
    part_after s t c n r g
    ∙ ap (λ (y : Option BackedSurface). option_map (first_current (width_of y) (height_of y)) (part_of_context s n.object)) e
    ∙ at_part x.surface.width x.surface.height false (part_of_context s n.object) p f i

pub takes_none : (s : State) (t : ℕ) (c : CallValue) (n : Handle) (p : PartValue) → IsReady s t → IsGiven s t c n → draw_handle s c ≡ None → part_of_context s n.object ≡ Some p → p.was_current ≡ false →
    part_of_context (step s t c).state n.object ≡ Some (with_box 0 0 p)
takes_none s t c n p r g e f i =
    part_after s t c n r g
    ∙ ap (λ (o : Option Handle). option_map (first_current (width_of (surface_of s o)) (height_of (surface_of s o))) (part_of_context s n.object)) e
    ∙ at_part 0 0 false (part_of_context s n.object) p f i

pub keeps_sides : (s : State) (t : ℕ) (c : CallValue) (n : Handle) (p : PartValue) → IsReady s t → IsGiven s t c n → part_of_context s n.object ≡ Some p → p.was_current ≡ true → part_of_context (step s t c).state n.object ≡ Some p
keeps_sides s t c n p r g f i =
    let y = surface_of s (draw_handle s c) in
    part_after s t c n r g ∙ at_part (width_of y) (height_of y) true (part_of_context s n.object) p f i
