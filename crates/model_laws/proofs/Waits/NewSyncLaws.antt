-- A new sync: the one call that makes it, what is known where no rule refuses that, and where EGL_BAD_ALLOC comes (EGL 1.5, section 3.8.1).
use Rattle.std.proofs.Common.{◌≡◌, ℕ, ◌<◌, refl, ap, subst, ◌∙◌, Bool, true, false, not, ◌==◌, List, [], ◌∷◌, ◌++◌, None, Some, is_some}
use Rattle.std.specs.Prelude.{IsSome}
use Rattle.std.proofs.lemmas.Bool.{and_from, and_parts, leb-false, not-false, not_from_true}
use Rattle.egl_calls.specs.Calls.{CallValue}
use Rattle.egl_calls.specs.declared.kinds.Kind.TheVariants.{Egl}
use Rattle.egl_calls.specs.declared.kinds.EglKind.{EglKind}
use Rattle.egl_calls.specs.declared.kinds.EglKind.TheVariants.{CreateSync}
use Rattle.egl_calls.specs.declared.errors.EglError.{EglError}
use Rattle.egl_calls.specs.declared.errors.EglError.TheVariants.{BadAlloc, BadAttribute, BadDisplay, NotInitialized, BadMatch}
use Rattle.egl_names.specs.declared.codes.TheConstants.{EGL_SYNC_FENCE}
use Rattle.display_table.specs.declared.handles.HandleKind.TheVariants.{Sync as a_sync}
use Rattle.refusal_rows.specs.Rows.{AllOff, Row, ◌⇒◌, first_error}
use Rattle.refusal_rows.proofs.RowLaws.{first_is, first_of, from_others, past_off}
use Rattle.call_rules.specs.declared.egl_facts.EglFacts.{EglFacts}
use Rattle.call_rules.specs.EglRules.{has_attributes, has_code}
use Rattle.call_rules.proofs.EglLaws.{first_refused, refused_first, rows_off}
use Rattle.egl_model.specs.State.{State}
use Rattle.egl_model.specs.Arguments.{number}
use Rattle.egl_model.specs.Currents.{current_context, display_at}
use Rattle.egl_model.specs.Displays.{is_display}
use Rattle.egl_model.specs.EglCalls.{egl_effect, egl_refusal}
use Rattle.egl_model.specs.Facts.{facts_of}
use Rattle.egl_model.specs.Syncs.{created_sync}
use Rattle.model_laws.specs.Extents.{made_handle}
use Rattle.model_laws.specs.Laws.{IsAllowedEgl, IsEglCall}
use Rattle.model_laws.specs.Wants.{Answers, IsFaultlessSync, WantsNumber}
use Rattle.model_laws.proofs.Pixels.WantLaws.{from_number, is_bad_alloc, refusal_of_reply, reply_of_refusal, to_number}

-- ---- What is known where no rule refuses.
pub sync_display : (s : State) (t : ℕ) (c : CallValue) → c.kind ≡ Egl CreateSync → egl_refusal s t CreateSync c ≡ None → is_display (number c 0) ≡ true
unfolding egl_refusal
sync_display s t c k h = not-false _ (rows_off c (facts_of s t c) CreateSync k h).0

pub sync_current : (s : State) (t : ℕ) (c : CallValue) → c.kind ≡ Egl CreateSync → egl_refusal s t CreateSync c ≡ None → IsSome (current_context s t)
unfolding egl_refusal
sync_current s t c k h = (and_parts (is_some (current_context s t)) _ (not-false _ (rows_off c (facts_of s t c) CreateSync k h).1.1.1.1.0)).0

pub sync_numbers : (s : State) (t : ℕ) (c : CallValue) → c.kind ≡ Egl CreateSync → egl_refusal s t CreateSync c ≡ None → s.next_handle < 2147483648
unfolding egl_refusal
sync_numbers s t c k h = leb-false 2147483648 s.next_handle (rows_off c (facts_of s t c) CreateSync k h).1.1.1.1.1.0

-- ---- One call makes a sync.
one_call : (k : EglKind) → made_handle k ≡ Some a_sync → k ≡ CreateSync
one_call CreateSync e = refl
one_call k e = cc

pub made_sync : (s : State) (t : ℕ) (k : EglKind) (c : CallValue) → made_handle k ≡ Some a_sync → (egl_effect s t k c).state ≡ created_sync s t c
made_sync s t k c e = ap (λ (j : EglKind). (egl_effect s t j c).state) (one_call k e)

pub current_of_sync : (s : State) (t : ℕ) (k : EglKind) (c : CallValue) → made_handle k ≡ Some a_sync → IsAllowedEgl s t k c → IsSome (current_context s t)
current_of_sync s t k c e h = let a = subst (λ (j : EglKind). IsAllowedEgl s t j c) (one_call k e) h in sync_current s t c a.call.kind a.allowed

-- ---- Where EGL_BAD_ALLOC comes.
abbrev asking_sync : CallValue → EglFacts → List (Row EglError)
asking_sync c f =
    (not f.is_display ⇒ BadDisplay) ∷
    (not f.is_initialized ⇒ NotInitialized) ∷
    (not (has_code c 1 EGL_SYNC_FENCE) ⇒ BadAttribute) ∷
    (has_attributes c ⇒ BadAttribute) ∷
    (not f.is_current_here ⇒ BadMatch) ∷
    []

last_holds : (b : Bool) → first_error ((b ⇒ BadAlloc) ∷ []) ≡ Some BadAlloc → b ≡ true
last_holds true h = refl
last_holds false h = absurd (let e : first_error {E = EglError} [] ≡ Some BadAlloc = h in cc)

faultless_sync : (s : State) (t : ℕ) (c : CallValue) → AllOff (asking_sync c (facts_of s t c)) → IsFaultlessSync s t c
faultless_sync s t c a =
    let both = and_parts (is_some (current_context s t)) (display_at s (current_context s t) == number c 0) (not-false _ a.1.1.1.1.0) in
    record {
      display = not-false _ a.0;
      initialized = not-false _ a.1.0;
      fence = not-false _ a.1.1.0;
      list = a.1.1.1.0;
      current = both.0;
      here = both.1;
    }

asking_sync_off : (s : State) (t : ℕ) (c : CallValue) → IsFaultlessSync s t c → AllOff (asking_sync c (facts_of s t c))
asking_sync_off s t c a =
    let here = and_from (is_some (current_context s t)) (display_at s (current_context s t) == number c 0) a.current a.here in
    (not_from_true _ a.display, (not_from_true _ a.initialized, (not_from_true _ a.fence, (a.list, (not_from_true _ here, tt)))))

pub sync_is_refused : (s : State) (t : ℕ) (c : CallValue) → IsEglCall s t CreateSync c → Answers s t c BadAlloc → IsFaultlessSync s t c × WantsNumber s
unfolding egl_refusal
sync_is_refused s t c h a =
    let f = facts_of s t c in
    let r = refused_first c f CreateSync BadAlloc h.kind (refusal_of_reply s t CreateSync c BadAlloc h a) in
    let o = from_others is_bad_alloc BadAlloc (asking_sync c f) ((f.are_handles_used_up ⇒ BadAlloc) ∷ []) refl (refl, (refl, (refl, (refl, (refl, tt))))) (first_is BadAlloc (asking_sync c f ++ (f.are_handles_used_up ⇒ BadAlloc) ∷ []) r) in
    (faultless_sync s t c o.0, to_number s (last_holds f.are_handles_used_up o.1))

pub sync_wants_number : (s : State) (t : ℕ) (c : CallValue) → IsEglCall s t CreateSync c → IsFaultlessSync s t c × WantsNumber s → Answers s t c BadAlloc
unfolding egl_refusal
sync_wants_number s t c h w =
    let f = facts_of s t c in
    reply_of_refusal s t CreateSync c BadAlloc h
    (first_refused c f CreateSync BadAlloc h.kind
    (first_of BadAlloc (asking_sync c f ++ (f.are_handles_used_up ⇒ BadAlloc) ∷ []) (past_off (asking_sync c f) ((f.are_handles_used_up ⇒ BadAlloc) ∷ []) (asking_sync_off s t c w.0)
    ∙ ap (λ b. first_error ((b ⇒ BadAlloc) ∷ [])) (from_number s w.1))))
