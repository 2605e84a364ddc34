-- What flushes and the calls on syncs keep, and that they pass what is put for others.
use Rattle.std.proofs.Common.{◌≡◌, ℕ, Bool, true, false, cond, not, ◌&&◌, ◌==◌, [], ◌∷◌, refl, ap, subst, ◌∙◌, arith, length, is_some, Option, None, Some}
use Rattle.std.specs.Prelude.{pos}
use Rattle.std.specs.Option.{option_map}
use Rattle.egl_calls.specs.Calls.{CallValue, ReplyValue}
use Rattle.egl_calls.specs.declared.errors.Outcome.TheVariants.{Done, Waiting}
use Rattle.egl_names.specs.declared.codes.TheConstants.{EGL_CONDITION_SATISFIED, EGL_TIMEOUT_EXPIRED}
use Rattle.driver_objects.specs.declared.kinds.ObjectKind.TheVariants.{Sync as a_sync_kind}
use Rattle.display_table.specs.declared.handles.Handle.{Handle}
use Rattle.display_table.specs.declared.handles.HandleKind.TheVariants.{Sync as a_sync}
use Rattle.egl_model.specs.Arguments.{number}
use Rattle.egl_model.specs.Currents.{current_context, display_at}
use Rattle.model_laws.specs.Extents.{making, quiet}
use Rattle.egl_model.specs.Flushes.{flush, flushed, flushed_to}
use Rattle.egl_model.specs.Handles.{with_handle}
use Rattle.egl_model.specs.MakeCurrent.{bound_by}
use Rattle.egl_model.specs.Objects.{change_context, change_fence, with_context, with_fence}
use Rattle.egl_model.specs.Parts.{own_objects, put_own}
use Rattle.model_laws.specs.Shapes.{Goes, shapes}
use Rattle.model_laws.specs.Sound.{IsWhole}
use Rattle.egl_model.specs.State.{State}
use Rattle.egl_model.specs.Sweep.{live_bytes}
use Rattle.egl_model.specs.Step.{done}
use Rattle.egl_model.specs.Syncs.{add_sync, asks_for_flush, client_waited, created_sync, fence_objects, flush_for, flush_if, serve, served_fence, sync_handle, sync_value, sync_value_at, value_of_sync, wait_for, waited, waits_forever}
use Rattle.egl_model.specs.Waits.{is_signalled, waiting}
use Rattle.model_laws.proofs.Steps.Blinds.{blind-current, blind-display, blind-length, blind-signalled, signalled-put}
use Rattle.model_laws.proofs.Changes.Keeps.{Acts, Blind, acts_cond, acts_of, acts_self, acts_then, acts_within, by_quiet_moves}
use Rattle.model_laws.proofs.Changes.Moves.{Add, Wait, Change, Name}
use Rattle.model_laws.proofs.Handles.Named.{goes_valid}
use Rattle.model_laws.proofs.Changes.NewObjects.{without_pixels}
use Rattle.model_laws.proofs.References.Places.{new_kind}
use Rattle.model_laws.proofs.Changes.Setters.{setter-fence, setter-flush, suits-fence, suits-flush}
use Rattle.egl_model.specs.Facts.{is_current_here}

-- ---- Flushes.
pub acts-flushed : (s : State) (t : ℕ) (o : Option ℕ) → Acts quiet t s (flushed o)
unfolding change_context
acts-flushed s t None = acts_self t s
acts-flushed s t (Some n) = acts_of quiet t s (λ a. length a.objects) (λ k a. record a { objects = change_context (flushed_to k) n a.objects }) (blind-length t s)
    (by_quiet_moves t s (Change n (with_context (flushed_to (length s.objects))) ∷ []) refl (setter-flush (length s.objects), tt) (λ w. (suits-flush t (shapes s.objects) s n (length s.objects), tt)))

pub acts-flush : (s : State) (t : ℕ) → Acts quiet t s (λ a. flush a t)
acts-flush s t = acts_of quiet t s (λ a. current_context a t) flushed (blind-current t s) (acts-flushed s t (current_context s t))

-- ---- New fences.
acts-add_sync : (s : State) (t d : ℕ) (o : Option ℕ) → Acts making t s (λ a. add_sync a d o)
unfolding live_bytes
acts-add_sync s t d None = acts_within making t s (λ a. a) (acts_self t s)
acts-add_sync s t d (Some context) =
    let n = length s.objects in let new = fence_objects context in
    acts_of making t s (λ a. length a.objects) (λ n a. with_handle a d a_sync n (fence_objects context)) (blind-length t s)
    (by_quiet_moves t s (Add new ∷ Name d a_sync n ∷ []) refl ((tt, tt), (tt, tt)) (λ w. (
      (tt, without_pixels _ _ _ refl refl, tt),
      λ v. (new_kind s.objects new 0 n a_sync_kind (omega arith) refl, tt),
    )))

pub acts-create_sync : (s : State) (t : ℕ) (c : CallValue) → Acts making t s (λ a. created_sync a t c)
acts-create_sync s t c = acts_of making t s (λ a. current_context a t) (λ o a. add_sync a (number c 0) o) (blind-current t s) (acts-add_sync s t (number c 0) (current_context s t))

-- ---- A wait of the server.
acts-serve_at : (s : State) (t : ℕ) (o : Option Handle) → Acts quiet t s (serve o)
unfolding change_fence
acts-serve_at s t None = acts_self t s
acts-serve_at s t (Some h) = by_quiet_moves t s (Change h.object (with_fence served_fence) ∷ []) refl (setter-fence served_fence, tt) (λ w. (suits-fence t (shapes s.objects) s h.object served_fence, tt))

pub acts-serve : (s : State) (t : ℕ) (c : CallValue) → Acts quiet t s (λ a. serve (sync_handle a c) a)
acts-serve s t c = acts_of quiet t s (λ a. sync_handle a c) serve (λ w v x ne. refl) (acts-serve_at s t (sync_handle s c))

-- ---- A wait of the client.
acts-flush_if : (s : State) (t : ℕ) (b : Bool) → Acts quiet t s (flush_if b t)
acts-flush_if s t true = acts-flush s t
acts-flush_if s t false = acts_self t s

acts-flush_for : (s : State) (t n : ℕ) (c : CallValue) → Acts quiet t s (flush_for c t n)
acts-flush_for s t n c = acts_of quiet t s (λ a. is_signalled a n) (λ b a. flush_if (asks_for_flush c && not b) t a) (blind-signalled t n s) (acts-flush_if s t (asks_for_flush c && not (is_signalled s n)))

acts-wait_for : (s : State) (t n : ℕ) (c : CallValue) → (IsWhole (shapes s.objects) s → Goes (shapes s.objects) a_sync_kind (Some n)) → Acts quiet t s (wait_for c t n)
acts-wait_for s t n c goes = acts_of quiet t s (λ a. is_signalled a n) (λ b a. cond (waits_forever c && not b) (waiting a t (Some n)) a) (blind-signalled t n s)
    (acts_cond quiet t s (waits_forever c && not (is_signalled s n)) (λ a. waiting a t (Some n)) (λ a. a) (λ e. by_quiet_moves t s (Wait (Some n) ∷ []) refl (tt, tt) (λ w. (goes w, tt))) (λ e. acts_self t s))

acts-waited : (s : State) (t : ℕ) (c : CallValue) (o : Option Handle) → sync_handle s c ≡ o → Acts quiet t s (λ a. (client_waited c t o a).state)
acts-waited s t c None e = acts_self t s
acts-waited s t c (Some h) e =
    let a = flush_for c t h.object s in
    acts_then quiet t s (flush_for c t h.object) (wait_for c t h.object) (acts-flush_for s t h.object c)
    (acts-wait_for a t h.object c (λ w. subst (λ (o : Option Handle). Goes (shapes a.objects) a_sync_kind (option_map (λ b. b.object) (bound_by o)))
    e
    (goes_valid (shapes a.objects) a (number c 0) (number c 1) a_sync w)))

pub acts-client_wait : (s : State) (t : ℕ) (c : CallValue) → Acts quiet t s (λ a. (client_waited c t (sync_handle a c) a).state)
acts-client_wait s t c = acts_of quiet t s (λ a. sync_handle a c) (λ o a. (client_waited c t o a).state) (λ w v x ne. refl) (acts-waited s t c (sync_handle s c) refl)

-- its reply tells whether the sync is signalled behind the flush
reply_by : Bool → Bool → ReplyValue
reply_by forever b = record {
  outcome = cond (forever && not b) Waiting Done;
  value = cond b (pos EGL_CONDITION_SATISFIED) (cond forever (pos 0) (pos EGL_TIMEOUT_EXPIRED));
  list = [];
  bytes = [];
}

blind-waited : (t : ℕ) (c : CallValue) (o : Option Handle) (s : State) → Blind t s (λ a. done (client_waited c t o a))
unfolding reply_by
blind-waited t c None s w v x ne = refl
blind-waited t c (Some h) s w v x ne =
    let n = h.object in
    answers (flush_for c t n (put_own s v x)) (flush_for c t n s)
    (ap (λ (a : State). is_signalled a n) ((acts-flush_for s t n c).moved.put w v x ne) ∙ signalled-put (own_objects s v) v n x (flush_for c t n s))
  where
    answers : (a b : State) → is_signalled a h.object ≡ is_signalled b h.object → done (waited c t h.object a) ≡ done (waited c t h.object b)
    answers a b e = ap (reply_by (waits_forever c)) e

pub blind-client_wait : (t : ℕ) (c : CallValue) (s : State) → Blind t s (λ a. done (client_waited c t (sync_handle a c) a))
blind-client_wait t c s w v x ne = blind-waited t c (sync_handle s c) s w v x ne

-- ---- What is asked.
pub blind-current_here : (t : ℕ) (c : CallValue) (s : State) → Blind t s (λ a. is_current_here a t c)
blind-current_here t c s w v x ne =
    ap (here (put_own s v x)) (blind-current t s w v x ne) ∙ ap (here_by (current_context s t)) (blind-display t (current_context s t) s w v x ne)
  where
    here_by : Option ℕ → ℕ → Bool
    here_by o d = is_some o && (d == number c 0)

    here : State → Option ℕ → Bool
    here a o = here_by o (display_at a o)

blind-value_of_sync : (t a : ℕ) (o : Option Handle) (s : State) → Blind t s (λ b. value_of_sync b a o)
blind-value_of_sync t a None s w v x ne = refl
blind-value_of_sync t a (Some h) s w v x ne = ap (sync_value_at a) (blind-signalled t h.object s w v x ne)

pub blind-sync_value : (t : ℕ) (c : CallValue) (s : State) → Blind t s (λ a. sync_value a c)
blind-sync_value t c s w v x ne = blind-value_of_sync t (number c 2) (sync_handle s c) s w v x ne
