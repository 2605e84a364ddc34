-- Where EGL_BAD_ALLOC comes of an eglCreateWindowSurface.
use Rattle.std.proofs.Common.{◌≡◌, ◌⊎◌, ℕ, ◌+◌, inl, inr, refl, ◌∙◌, Bool, true, false, not, ◌&&◌, List, [], ◌∷◌, ◌++◌, Some}
use Rattle.std.specs.Prelude.{nat_lt}
use Rattle.std.proofs.lemmas.Bool.{not-false, not_from_true}
use Rattle.egl_calls.specs.Calls.{CallValue}
use Rattle.egl_calls.specs.declared.kinds.EglKind.TheVariants.{CreateWindowSurface}
use Rattle.egl_calls.specs.declared.errors.EglError.{EglError}
use Rattle.egl_calls.specs.declared.errors.EglError.TheVariants.{BadAlloc, BadAttribute, BadDisplay, NotInitialized, BadConfig, BadMatch, BadNativeWindow}
use Rattle.refusal_rows.specs.Rows.{AllOff, Row, ◌⇒◌, first_error}
use Rattle.refusal_rows.proofs.RowLaws.{first_is, first_of, from_others, past_off}
use Rattle.call_rules.specs.declared.egl_facts.EglFacts.{EglFacts}
use Rattle.call_rules.proofs.EglLaws.{first_refused, refused_first}
use Rattle.call_rules.proofs.TestLaws.{given_last, is_past, past, unless}
use Rattle.egl_model.specs.State.{State}
use Rattle.egl_model.specs.EglCalls.{egl_refusal}
use Rattle.egl_model.specs.Facts.{facts_of}
use Rattle.model_laws.specs.Laws.{IsEglCall}
use Rattle.model_laws.specs.Wants.{Answers, IsFaultlessWindow, IsWindowUsed, WantsNumber, WantsWindowPixels}
use Rattle.model_laws.proofs.Windows.WindowUses.{used_window, window_is_used}
use Rattle.model_laws.proofs.Pixels.WantLaws.{from_number, is_bad_alloc, refusal_of_reply, reply_of_refusal, to_number}

-- ---- Windows: the rows before EGL_BAD_ALLOC, and those of it.
abbrev asking : EglFacts → List (Row EglError)
asking f =
    (not f.is_display ⇒ BadDisplay) ∷
    (not f.is_initialized ⇒ NotInitialized) ∷
    (not f.is_config ⇒ BadConfig) ∷
    (not f.is_window_list ⇒ BadAttribute) ∷
    (not f.is_window_config && f.is_config ⇒ BadMatch) ∷
    (not f.is_window ⇒ BadNativeWindow) ∷
    []

abbrev wanting : Bool → Bool → Bool → List (Row EglError)
wanting used past_limit used_up = (used ⇒ BadAlloc) ∷ (past_limit ⇒ BadAlloc) ∷ (used_up ⇒ BadAlloc) ∷ []

one_holds : (a b d : Bool) → first_error (wanting a b d) ≡ Some BadAlloc → (a ≡ true) ⊎ ((b ≡ true) ⊎ (d ≡ true))
one_holds true b d h = inl refl
one_holds false true d h = inr (inl refl)
one_holds false false true h = inr (inr refl)
one_holds false false false h = absurd (let e : first_error {E = EglError} [] ≡ Some BadAlloc = h in cc)

any_holds : (a b d : Bool) → (a ≡ true) ⊎ ((b ≡ true) ⊎ (d ≡ true)) → first_error (wanting a b d) ≡ Some BadAlloc
any_holds true b d h = refl
any_holds false true d h = refl
any_holds false false true h = refl
any_holds false false false (inl h) = absurd (let e : false ≡ true = h in cc)
any_holds false false false (inr (inl h)) = absurd (let e : false ≡ true = h in cc)
any_holds false false false (inr (inr h)) = absurd (let e : false ≡ true = h in cc)

faultless : (s : State) (t : ℕ) (c : CallValue) → AllOff (asking (facts_of s t c)) → IsFaultlessWindow s c
faultless s t c a = record {
  display = not-false _ a.0;
  initialized = not-false _ a.1.0;
  config = not-false _ a.1.1.0;
  list = not-false _ a.1.1.1.0;
  windows = not-false _ (given_last (not (facts_of s t c).is_window_config) (facts_of s t c).is_config (not-false _ a.1.1.0) a.1.1.1.1.0);
  declared = not-false _ a.1.1.1.1.1.0;
}

asking_off : (s : State) (t : ℕ) (c : CallValue) → IsFaultlessWindow s c → AllOff (asking (facts_of s t c))
asking_off s t c a = (not_from_true _ a.display, (not_from_true _ a.initialized, (not_from_true _ a.config, (not_from_true _ a.list, (unless (facts_of s t c).is_window_config (facts_of s t c).is_config a.windows, (not_from_true _ a.declared, tt))))))

too_many : State → ℕ → CallValue → Bool
too_many s t c = let f = facts_of s t c in nat_lt f.video_limit (f.live_bytes + f.window_bytes)

to_wants : (s : State) (t : ℕ) (c : CallValue) → (((facts_of s t c).is_window_used ≡ true) ⊎ ((too_many s t c ≡ true) ⊎ ((facts_of s t c).are_handles_used_up ≡ true))) → IsWindowUsed s c ⊎ (WantsWindowPixels s c ⊎ WantsNumber s)
unfolding too_many
to_wants s t c (inl u) = inl (window_is_used s c u)
to_wants s t c (inr (inl v)) = inr (inl (past _ _ v))
to_wants s t c (inr (inr n)) = inr (inr (to_number s n))

from_wants : (s : State) (t : ℕ) (c : CallValue) → IsWindowUsed s c ⊎ (WantsWindowPixels s c ⊎ WantsNumber s) → (((facts_of s t c).is_window_used ≡ true) ⊎ ((too_many s t c ≡ true) ⊎ ((facts_of s t c).are_handles_used_up ≡ true)))
unfolding too_many
from_wants s t c (inl u) = inl (used_window s c u)
from_wants s t c (inr (inl v)) = inr (inl (is_past _ _ v))
from_wants s t c (inr (inr n)) = inr (inr (from_number s n))

pub window_is_refused : (s : State) (t : ℕ) (c : CallValue) → IsEglCall s t CreateWindowSurface c → Answers s t c BadAlloc → IsFaultlessWindow s c × (IsWindowUsed s c ⊎ (WantsWindowPixels s c ⊎ WantsNumber s))
unfolding egl_refusal too_many
window_is_refused s t c h a =
    let f = facts_of s t c in
    let r = refused_first c f CreateWindowSurface BadAlloc h.kind (refusal_of_reply s t CreateWindowSurface c BadAlloc h a) in
    let o = from_others is_bad_alloc BadAlloc (asking f) (wanting f.is_window_used (too_many s t c) f.are_handles_used_up) refl (refl, (refl, (refl, (refl, (refl, (refl, tt)))))) (first_is BadAlloc (asking f ++ wanting f.is_window_used (too_many s t c) f.are_handles_used_up) r) in
    (faultless s t c o.0, to_wants s t c (one_holds f.is_window_used (too_many s t c) f.are_handles_used_up o.1))

pub window_wants_something : (s : State) (t : ℕ) (c : CallValue) → IsEglCall s t CreateWindowSurface c → IsFaultlessWindow s c × (IsWindowUsed s c ⊎ (WantsWindowPixels s c ⊎ WantsNumber s)) → Answers s t c BadAlloc
unfolding egl_refusal too_many
window_wants_something s t c h w =
    let f = facts_of s t c in
    let rows = wanting f.is_window_used (too_many s t c) f.are_handles_used_up in
    reply_of_refusal s t CreateWindowSurface c BadAlloc h
    (first_refused c f CreateWindowSurface BadAlloc h.kind
    (first_of BadAlloc (asking f ++ rows) (past_off (asking f) rows (asking_off s t c w.0) ∙ any_holds f.is_window_used (too_many s t c) f.are_handles_used_up (from_wants s t c w.1))))
