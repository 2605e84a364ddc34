-- A new handle names a new object of its kind.
use Rattle.std.proofs.Common.{◌≡◌, ◌≢◌, ◌⊎◌, ℕ, true, List, [], ◌∷◌, ◌++◌, refl, sym, ap, ◌∙◌, subst, arith, inl, inr, length, Bool, false, cond, is_some, Option, None, Some, get_or, map}
use Rattle.std.specs.Prelude.{pos}
use Rattle.std.specs.Option.{option_map, option_map_or}
use Rattle.std.proofs.lemmas.List.{map-append}
use Rattle.egl_calls.specs.Calls.{CallValue}
use Rattle.egl_calls.specs.declared.kinds.Kind.{Kind}
use Rattle.egl_calls.specs.declared.kinds.Kind.TheVariants.{Egl, Gl, Own}
use Rattle.egl_calls.specs.declared.kinds.EglKind.{EglKind}
use Rattle.egl_calls.specs.declared.kinds.EglKind.TheVariants.{CreateWindowSurface, CreatePbufferSurface, CreateContext, CreateImage}
use Rattle.egl_calls.specs.declared.errors.EglError.{EglError}
use Rattle.egl_calls.specs.declared.errors.EglError.TheVariants.{Success}
use Rattle.egl_calls.specs.declared.errors.Outcome.TheVariants.{Done, Waiting}
use Rattle.egl_calls.specs.Arguments.{signed}
use Rattle.driver_objects.specs.Objects.{kind_of}
use Rattle.driver_objects.specs.declared.objects.Object.{Object}
use Rattle.driver_objects.specs.declared.objects.Object.TheVariants.{Image}
use Rattle.display_table.specs.declared.handles.Handle.{Handle}
use Rattle.display_table.specs.declared.handles.HandleKind.{HandleKind}
use Rattle.display_table.specs.declared.handles.HandleKind.TheVariants.{Context as a_context, Surface as a_surface, Image as an_image, Sync as a_sync}
use Rattle.egl_model.specs.Graph.{is_in}
use Rattle.egl_model.specs.Objects.{as_egl_image}
use Rattle.egl_model.specs.State.{State, record_of, set_error}
use Rattle.egl_model.specs.Arguments.{number}
use Rattle.egl_model.specs.Handles.{with_handle}
use Rattle.egl_model.specs.Surfaces.{asked_height, asked_width, asks_for_largest, pbuffer_objects, side_of}
use Rattle.egl_model.specs.Windows.{asks_for_single, named_place, named_spec, window_objects}
use Rattle.egl_model.specs.Contexts.{context_objects, shared_group}
use Rattle.egl_model.specs.Sweep.{edges_at, is_reached, roots, sweep}
use Rattle.egl_model.specs.Effects.{Effect}
use Rattle.egl_model.specs.EglCalls.{egl_effect, egl_refusal}
use Rattle.egl_model.specs.Facts.{facts_of}
use Rattle.egl_model.specs.Currents.{current_context}
use Rattle.egl_model.specs.Images.{add_image, source_storage}
use Rattle.egl_model.specs.Syncs.{add_sync, fence_objects}
use Rattle.call_rules.proofs.EglLaws.{image_allowed}
use Rattle.egl_model.specs.Step.{Stepped, after_egl_rules, egl_step, step, step_by, step_in, wait_step}
use Rattle.model_laws.specs.Kinds.{IsA, named_kind}
use Rattle.model_laws.specs.Laws.{IsAllowedEgl}
use Rattle.model_laws.specs.NewHandles.{HasNewHandle, HasNewImage}
use Rattle.model_laws.proofs.References.LinkLaws.{root_marked, same_object}
use Rattle.model_laws.proofs.Waits.NewSyncLaws.{current_of_sync, made_sync}
use Rattle.model_laws.proofs.References.Places.{new_at}
use Rattle.model_laws.proofs.Changes.LinkedSteps.{at_head, from_handle, in_right, named_by}
use Rattle.model_laws.proofs.Steps.RefusalLaws.{allowed_egl, allowed_egl_state}
use Rattle.model_laws.proofs.Steps.FrameLaws.{done_or_quiet}
use Rattle.model_laws.proofs.Steps.StepKeeps.{next-step}
use Rattle.model_laws.specs.Extents.{extent_of_kind, made_handle}
use Rattle.egl_model.specs.Waits.{is_signalled, is_wait_end}

-- ---- The handle and what it names.
last_named : (hs : List Handle) (h : Handle) → is_in h.object (named_by (hs ++ h ∷ [])) ≡ true
unfolding named_by
last_named hs h = ap (is_in h.object) (map-append (λ h. h.object) hs (h ∷ [])) ∙ in_right h.object (map (λ h. h.object) hs) (h.object ∷ []) (at_head h.object h.object [] refl)

-- the state behind a new handle, before the sweep
made : State → ℕ → ℕ → HandleKind → List (Option Object) → State
made s t d k new = set_error (with_handle s d k (length s.objects) new) t Success

new_reached : (s : State) (t d : ℕ) (k : HandleKind) (new : List (Option Object)) → is_reached (made s t d k new) (length s.objects) ≡ true
unfolding made
new_reached s t d k new =
    let a = made s t d k new in
    root_marked (roots a) (edges_at a.objects) 4 (length s.objects)
    (from_handle a.handles a.threads (length s.objects) (last_named s.handles (record { number = s.next_handle; display = d; kind = k; object = length s.objects })))

new_object : (s : State) (t d : ℕ) (k : HandleKind) (new : List (Option Object)) → option_map kind_of (get_or new 0 None) ≡ Some (named_kind k) → IsA (named_kind k) (sweep (made s t d k new)) (length s.objects)
unfolding made
new_object s t d k new first =
    ap (option_map kind_of) (same_object (made s t d k new) (length s.objects) (new_reached s t d k new) ∙ new_at s.objects new None 0 (length s.objects) (omega arith)) ∙ first

has_new : (s : State) (t d : ℕ) (k : HandleKind) (new : List (Option Object)) → option_map kind_of (get_or new 0 None) ≡ Some (named_kind k) → HasNewHandle s (sweep (made s t d k new)) d k
unfolding made
has_new s t d k new first = record {
  handle = (
    record { number = s.next_handle; display = d; kind = k; object = length s.objects },
    record { last = refl; has_number = refl; on_display = refl; of_kind = refl; object = new_object s t d k new first; fresh = omega arith },
  );
  next = refl;
}

pbuffer_gets_handle : (s : State) (t : ℕ) (c : CallValue) → IsAllowedEgl s t CreatePbufferSurface c → HasNewHandle s (step s t c).state (number c 0) a_surface
unfolding made
pbuffer_gets_handle s t c h =
    subst (λ (a : State). HasNewHandle s a (number c 0) a_surface) (sym (allowed_egl_state s t CreatePbufferSurface c h))
    (has_new s t (number c 0) a_surface (pbuffer_objects (length s.objects) (signed c 1) (side_of (asked_width c)) (side_of (asked_height c)) (asks_for_largest c)) refl)

window_gets_handle : (s : State) (t : ℕ) (c : CallValue) → IsAllowedEgl s t CreateWindowSurface c → HasNewHandle s (step s t c).state (number c 0) a_surface
unfolding made
window_gets_handle s t c h =
    subst (λ (a : State). HasNewHandle s a (number c 0) a_surface) (sym (allowed_egl_state s t CreateWindowSurface c h))
    (has_new s t (number c 0) a_surface (window_objects (length s.objects) (signed c 1) (named_spec s c) (asks_for_single c) (named_place s c)) refl)

context_first : (n : ℕ) (config d : ℕ) (group : Option ℕ) → option_map kind_of (get_or (context_objects n config d group) 0 None) ≡ Some (named_kind a_context)
context_first n config d None = refl
context_first n config d (Some g) = refl

context_gets_handle : (s : State) (t : ℕ) (c : CallValue) → IsAllowedEgl s t CreateContext c → HasNewHandle s (step s t c).state (number c 0) a_context
unfolding made
context_gets_handle s t c h =
    subst (λ (a : State). HasNewHandle s a (number c 0) a_context) (sym (allowed_egl_state s t CreateContext c h))
    (has_new s t (number c 0) a_context (context_objects (length s.objects) (number c 1) (number c 0) (shared_group s c)) (context_first (length s.objects) (number c 1) (number c 0) (shared_group s c)))

sync_made : (s : State) (t d : ℕ) (o : Option ℕ) → is_some o ≡ true → HasNewHandle s (sweep (set_error (add_sync s d o) t Success)) d a_sync
unfolding made
sync_made s t d None i = absurd (let e : false ≡ true = i in cc)
sync_made s t d (Some context) i = has_new s t d a_sync (fence_objects context) refl

sync_gets_handle : (s : State) (t : ℕ) (k : EglKind) (c : CallValue) → IsAllowedEgl s t k c → made_handle k ≡ Some a_sync → HasNewHandle s (step s t c).state (number c 0) a_sync
sync_gets_handle s t k c h e =
    subst (λ (a : State). HasNewHandle s a (number c 0) a_sync) (sym (allowed_egl_state s t k c h ∙ ap (λ (a : State). sweep (set_error a t Success)) (made_sync s t k c e)))
    (sync_made s t (number c 0) (current_context s t) (current_of_sync s t k c e h))

image_made : (s : State) (t d : ℕ) (o : Option ℕ) → is_some o ≡ true → HasNewHandle s (sweep (set_error (option_map_or (add_image s d) o s) t Success)) d an_image
unfolding made
image_made s t d None i = absurd (let e : false ≡ true = i in cc)
image_made s t d (Some k) i = has_new s t d an_image (Some (Image (record { storage = k })) ∷ []) refl

image_gets_handle : (s : State) (t : ℕ) (c : CallValue) → IsAllowedEgl s t CreateImage c → HasNewHandle s (step s t c).state (number c 0) an_image
unfolding egl_refusal
image_gets_handle s t c h =
    let a = image_allowed c (facts_of s t c) h.call.kind h.allowed in
    subst (λ (a : State). HasNewHandle s a (number c 0) an_image) (sym (allowed_egl_state s t CreateImage c h)) (image_made s t (number c 0) (source_storage s c) a.asked.level)

-- and its object is of the storage that its call names
image_made_of : (s : State) (t d k : ℕ) (o : Option ℕ) → o ≡ Some k → HasNewImage s (sweep (set_error (option_map_or (add_image s d) o s) t Success)) d k
unfolding made has_new
image_made_of s t d k None e = absurd (let f : None ≡ Some k = e in cc)
image_made_of s t d k (Some j) e =
    let new = Some (Image (record { storage = j })) ∷ [] in let x = has_new s t d an_image new refl in
    record {
      handle = (
        x.handle.0,
        x.handle.1,
        ap as_egl_image (same_object (made s t d an_image new) (length s.objects) (new_reached s t d an_image new) ∙ new_at s.objects new None 0 (length s.objects) (omega arith)) ∙ ap (λ (o : Option ℕ). option_map (λ m. record { storage = m }) o) e,
      );
    }

pub image_gets_storage : (s : State) (t : ℕ) (c : CallValue) (k : ℕ) → IsAllowedEgl s t CreateImage c → source_storage s c ≡ Some k → HasNewImage s (step s t c).state (number c 0) k
image_gets_storage s t c k h e = subst (λ (a : State). HasNewImage s a (number c 0) k) (sym (allowed_egl_state s t CreateImage c h)) (image_made_of s t (number c 0) k (source_storage s c) e)

-- ---- Each call that makes a handle: two make a surface, and one a handle of each other kind.
of_surface : (k : EglKind) → made_handle k ≡ Some a_surface → (k ≡ CreateWindowSurface) ⊎ (k ≡ CreatePbufferSurface)
of_surface CreateWindowSurface e = inl refl
of_surface CreatePbufferSurface e = inr refl
of_surface k e = absurd (cc e)

of_context : (k : EglKind) → made_handle k ≡ Some a_context → k ≡ CreateContext
of_context CreateContext e = refl
of_context k e = cc

of_image : (k : EglKind) → made_handle k ≡ Some an_image → k ≡ CreateImage
of_image CreateImage e = refl
of_image k e = cc

pub gets_handle : (s : State) (t : ℕ) (k : EglKind) (c : CallValue) (kind : HandleKind) → IsAllowedEgl s t k c → made_handle k ≡ Some kind → HasNewHandle s (step s t c).state (number c 0) kind
gets_handle s t k c a_context h e = context_gets_handle s t c (subst (λ (j : EglKind). IsAllowedEgl s t j c) (of_context k e) h)
gets_handle s t k c a_surface h e = elim (of_surface k e) [
  | inl i ↦ window_gets_handle s t c (subst (λ (j : EglKind). IsAllowedEgl s t j c) i h)
  | inr i ↦ pbuffer_gets_handle s t c (subst (λ (j : EglKind). IsAllowedEgl s t j c) i h)
]
gets_handle s t k c an_image h e = image_gets_handle s t c (subst (λ (j : EglKind). IsAllowedEgl s t j c) (of_image k e) h)
gets_handle s t k c a_sync h e = sync_gets_handle s t k c h e

made_value : (s : State) (t : ℕ) (k : EglKind) (c : CallValue) (kind : HandleKind) → made_handle k ≡ Some kind → (egl_effect s t k c).value ≡ pos s.next_handle
made_value s t CreateContext c kind e = cc
made_value s t k c kind e = cc

pub answers_number : (s : State) (t : ℕ) (k : EglKind) (c : CallValue) (kind : HandleKind) → IsAllowedEgl s t k c → made_handle k ≡ Some kind → (step s t c).reply.value ≡ pos s.next_handle
answers_number s t k c kind h e = ap (λ (x : Stepped). x.reply.value) (allowed_egl s t k c h) ∙ made_value s t k c kind e

-- ---- A call that isn't done makes none.
undone_egl : (s : State) (t : ℕ) (o : Option EglError) (f : Effect) → f.waits ≡ false → (after_egl_rules s t o f).reply.outcome ≢ Done → (after_egl_rules s t o f).state.next_handle ≡ s.next_handle
undone_egl s t None f d u = absurd (u (ap (λ b. cond b Waiting Done) d))
undone_egl s t (Some e) f d u = refl

undone_end : (s : State) (t : ℕ) (is_end signalled : Bool) → (wait_step s t is_end signalled).state.next_handle ≡ s.next_handle
undone_end s t false signalled = refl
undone_end s t true false = refl
undone_end s t true true = refl

undone_in : (s : State) (t : ℕ) (k : EglKind) (w : Option ℕ) (c : CallValue) → c.kind ≡ Egl k → (egl_effect s t k c).waits ≡ false → (step_in w s t c).reply.outcome ≢ Done → (step_in w s t c).state.next_handle ≡ s.next_handle
unfolding egl_step
undone_in s t k (Some sync) c h d u = undone_end s t (is_wait_end c.kind) (is_signalled s sync)
undone_in s t k None c h d u =
    let e : step_by s t c.kind c ≡ egl_step s t k c = ap (λ (kind : Kind). step_by s t kind c) h in
    ap (λ (x : Stepped). x.state.next_handle) e ∙ undone_egl s t (egl_refusal s t k c) (egl_effect s t k c) d (λ f. u (ap (λ (x : Stepped). x.reply.outcome) e ∙ f))

undone_by : (s : State) (t : ℕ) (k : Kind) (c : CallValue) → c.kind ≡ k → (step s t c).reply.outcome ≢ Done → (step s t c).state.next_handle ≡ s.next_handle
unfolding step
undone_by s t (Egl k) c h u = elim (done_or_quiet s t c k) [
  | inl d ↦ undone_in s t k (record_of s t).wait c h d u
  | inr q ↦ next-step s t c (ap (λ (kind : Kind). (extent_of_kind kind).handles) h ∙ q)
]
undone_by s t (Gl k) c h u = next-step s t c (ap (λ (kind : Kind). (extent_of_kind kind).handles) h)
undone_by s t (Own k) c h u = next-step s t c (ap (λ (kind : Kind). (extent_of_kind kind).handles) h)

pub undone_stays : (s : State) (t : ℕ) (c : CallValue) → (step s t c).reply.outcome ≢ Done → (step s t c).state.next_handle ≡ s.next_handle
undone_stays s t c u = undone_by s t c.kind c refl u
