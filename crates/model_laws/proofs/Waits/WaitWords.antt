-- What a client wait finds, and what its thread then waits for.
use Rattle.std.proofs.Common.{◌≡◌, ℕ, ◌<◌, Bool, true, false, cond, ◌&&◌, not, ◌⊎◌, inl, inr, length, set, refl, sym, ap, ◌∙◌, arith, Option, None, Some, get_or}
use Rattle.std.proofs.lemmas.Bool.{cases_eq}
use Rattle.std.proofs.lemmas.List.{get_or-set_same, length-set}
use Rattle.std.specs.Option.{option_map_or}
use Rattle.egl_calls.specs.Calls.{CallValue}
use Rattle.egl_calls.specs.declared.errors.EglError.TheVariants.{Success}
use Rattle.egl_calls.specs.declared.kinds.EglKind.TheVariants.{ClientWaitSync}
use Rattle.display_table.specs.declared.handles.Handle.{Handle}
use Rattle.driver_objects.specs.declared.fences.Fence.{Fence}
use Rattle.egl_model.specs.declared.records.ThreadRecord.{ThreadRecord}
use Rattle.egl_model.specs.State.{State, initial, record_of, set_error}
use Rattle.egl_model.specs.Currents.{current_context}
use Rattle.egl_model.specs.Flushes.{flushed}
use Rattle.egl_model.specs.Objects.{as_fence, fence_in}
use Rattle.egl_model.specs.Step.{Stepped, step}
use Rattle.egl_model.specs.Sweep.{sweep}
use Rattle.egl_model.specs.Syncs.{asks_for_flush, client_waited, flush_for, flush_if, sync_handle, waits_forever}
use Rattle.egl_model.specs.Waits.{is_signalled, signals, waiting}
use Rattle.model_laws.specs.Laws.{IsAllowedEgl}
use Rattle.model_laws.specs.ClientWaits.{IsFlushed, IsSatisfied, IsUnsatisfied}
use Rattle.model_laws.proofs.Waits.FenceLaws.{fence-flushed, flush_leaves, flush_signals, seen_flushed}
use Rattle.model_laws.proofs.Steps.RefusalLaws.{egl_call}
use Rattle.model_laws.proofs.Steps.StepLaws.{egl_done}

-- ---- The flush that the call asks for signals what a flush of the current context does.
never : (a : Bool) → (a && not true) ≡ false
never true = refl
never false = refl

not_flushed : (s : State) (t n : ℕ) (c : CallValue) → is_signalled s n ≡ true → is_signalled (flush_for c t n s) n ≡ true
not_flushed s t n c h = ap (λ b. is_signalled (flush_if (asks_for_flush c && not b) t s) n) h ∙ ap (λ b. is_signalled (flush_if b t s) n) (never (asks_for_flush c)) ∙ h

by_flush : (s : State) (t n : ℕ) (c : CallValue) (b : Bool) → is_signalled s n ≡ b → IsFlushed s t c n → is_signalled (flush_for c t n s) n ≡ true
by_flush s t n c true h f = not_flushed s t n c h
by_flush s t n c false h f =
    ap (λ b. is_signalled (flush_if (asks_for_flush c && not b) t s) n) h
    ∙ ap (λ b. is_signalled (flush_if (b && true) t s) n) f.asked
    ∙ ap (λ k. is_signalled (flushed k s) n) f.own.current
    ∙ flush_signals s n f.own.fence.context f.own.fence f.own.there refl

pub satisfied_after : (s : State) (t n : ℕ) (c : CallValue) → IsSatisfied s t c n → is_signalled (flush_for c t n s) n ≡ true
satisfied_after s t n c (inl h) = not_flushed s t n c h
satisfied_after s t n c (inr f) = by_flush s t n c (is_signalled s n) refl f

no_fence : (s : State) (n : ℕ) (k : Option ℕ) → fence_in s.objects n ≡ None → is_signalled (flushed k s) n ≡ false
no_fence s n k e = ap (λ o. option_map_or (signals (flushed k s).objects n) o false) (seen_flushed as_fence fence-flushed k s.objects n ∙ e)

of_current : (s : State) (t n : ℕ) (c : CallValue) (x : Fence) (k : Option ℕ) → asks_for_flush c ≡ true → is_signalled s n ≡ false → fence_in s.objects n ≡ Some x → current_context s t ≡ k → is_signalled (flushed k s) n ≡ true → IsFlushed s t c n
of_current s t n c x None asked off e cur h = absurd (let f : false ≡ true = sym off ∙ h in cc)
of_current s t n c x (Some k) asked off e cur h = elim (cases_eq x.context k) [
  | inl q ↦ record { asked = asked; own = record { fence = x; there = e; current = cur ∙ ap Some (sym q) } }
  | inr ne ↦ absurd (let f : false ≡ true = sym off ∙ sym (flush_leaves s n k x e ne) ∙ h in cc)
]

by_fence : (s : State) (t n : ℕ) (c : CallValue) (o : Option Fence) → asks_for_flush c ≡ true → is_signalled s n ≡ false → fence_in s.objects n ≡ o → is_signalled (flushed (current_context s t) s) n ≡ true → IsFlushed s t c n
by_fence s t n c None asked off e h = absurd (let f : false ≡ true = sym (no_fence s n (current_context s t) e) ∙ h in cc)
by_fence s t n c (Some x) asked off e h = of_current s t n c x (current_context s t) asked off e refl h

by_asking : (s : State) (t n : ℕ) (c : CallValue) (a : Bool) → asks_for_flush c ≡ a → is_signalled s n ≡ false → is_signalled (flush_if (a && true) t s) n ≡ true → IsSatisfied s t c n
by_asking s t n c true asked off h = inr (by_fence s t n c (fence_in s.objects n) asked off refl h)
by_asking s t n c false asked off h = inl h

by_signal : (s : State) (t n : ℕ) (c : CallValue) (b : Bool) → is_signalled s n ≡ b → is_signalled (flush_for c t n s) n ≡ true → IsSatisfied s t c n
by_signal s t n c true e h = inl e
by_signal s t n c false e h = by_asking s t n c (asks_for_flush c) refl e (sym (ap (λ b. is_signalled (flush_if (asks_for_flush c && not b) t s) n) e) ∙ h)

pub satisfied_before : (s : State) (t n : ℕ) (c : CallValue) → is_signalled (flush_for c t n s) n ≡ true → IsSatisfied s t c n
satisfied_before s t n c h = by_signal s t n c (is_signalled s n) refl h

pub unsatisfied_after : (s : State) (t n : ℕ) (c : CallValue) → IsUnsatisfied s t c n → is_signalled (flush_for c t n s) n ≡ false
unsatisfied_after s t n c u = by (is_signalled (flush_for c t n s) n) refl
  where
    by : (b : Bool) → is_signalled (flush_for c t n s) n ≡ b → is_signalled (flush_for c t n s) n ≡ false
    by true h = absurd (u (satisfied_before s t n c h))
    by false h = h

-- ---- What the thread waits for.
wait_by : (s : State) (t n : ℕ) (b : Bool) → t < length s.threads → (record_of s t).wait ≡ None → (record_of (set_error (cond b (waiting s t (Some n)) s) t Success) t).wait ≡ cond b (Some n) None
wait_by s t n true l w =
    let r : ThreadRecord = record (record_of s t) { wait = Some n } in
    let same = get_or-set_same s.threads t r initial l in
    let far = length-set s.threads t r in
    ap (λ (x : ThreadRecord). x.wait) (get_or-set_same (set s.threads t r) t (record (get_or (set s.threads t r) t initial) { error = Success }) initial (omega (arith, far, l)))
    ∙ ap (λ (x : ThreadRecord). x.wait) same
wait_by s t n false l w = ap (λ (x : ThreadRecord). x.wait) (get_or-set_same s.threads t (record (record_of s t) { error = Success }) initial l) ∙ w

after : (s : State) (t : ℕ) (c : CallValue) (h : Handle) → IsAllowedEgl s t ClientWaitSync c → sync_handle s c ≡ Some h →
    (step s t c).state ≡ sweep (set_error (client_waited c t (Some h) s).state t Success)
after s t c h a e =
    ap (λ (x : Stepped). x.state) (egl_call s t ClientWaitSync c a.call ∙ egl_done s t ClientWaitSync c a.allowed)
    ∙ ap (λ (o : Option Handle). sweep (set_error (client_waited c t o s).state t Success)) e

pub wait_is : (s : State) (t : ℕ) (c : CallValue) (h : Handle) (b : Bool) → IsAllowedEgl s t ClientWaitSync c → sync_handle s c ≡ Some h → t < length s.threads →
    (waits_forever c && not (is_signalled (flush_for c t h.object s) h.object)) ≡ b → (record_of (step s t c).state t).wait ≡ cond b (Some h.object) None
wait_is s t c h b a e l f =
    let g = flush_for c t h.object s in
    ap (λ (x : State). (record_of x t).wait) (after s t c h a e)
    ∙ ap (λ b. (record_of (set_error (cond b (waiting g t (Some h.object)) g) t Success) t).wait) f
    ∙ wait_by g t h.object b l a.call.goes

pub waits : (s : State) (t : ℕ) (c : CallValue) (h : Handle) → IsAllowedEgl s t ClientWaitSync c → sync_handle s c ≡ Some h → t < length s.threads → IsUnsatisfied s t c h.object → waits_forever c ≡ true → (record_of (step s t c).state t).wait ≡ Some h.object
waits s t c h a e l u f = wait_is s t c h true a e l (ap (λ b. b && not (is_signalled (flush_for c t h.object s) h.object)) f ∙ ap (λ b. true && not b) (unsatisfied_after s t h.object c u))

pub waits_for_none : (s : State) (t : ℕ) (c : CallValue) (h : Handle) → IsAllowedEgl s t ClientWaitSync c → sync_handle s c ≡ Some h → t < length s.threads → IsSatisfied s t c h.object ⊎ (waits_forever c ≡ false) → (record_of (step s t c).state t).wait ≡ None
waits_for_none s t c h a e l (inl i) = wait_is s t c h false a e l (ap (λ b. waits_forever c && not b) (satisfied_after s t h.object c i) ∙ never (waits_forever c))
waits_for_none s t c h a e l (inr f) = wait_is s t c h false a e l (ap (λ b. b && not (is_signalled (flush_for c t h.object s) h.object)) f)
