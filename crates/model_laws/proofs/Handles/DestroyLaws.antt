-- What calls remove of handles, and what they leave.
use Rattle.std.proofs.Common.{◌≡◌, ℕ, zero, suc, ◌<◌, Bool, true, false, cond, not, ◌==◌, List, [], ◌∷◌, Option, None, Some, length, get_or, set, is_some, refl, sym, ap, subst, ◌∙◌, arith}
use Rattle.std.specs.Prelude.{Contains}
use Rattle.std.specs.List.{filter}
use Rattle.std.proofs.Math.Seq.{map-set_same}
use Rattle.std.proofs.Math.ListN.{get_or-map}
use Rattle.std.proofs.lemmas.Bool.{not-false, not-true}
use Rattle.std.proofs.lemmas.List.Elements.{filter_passes}
use Rattle.egl_calls.specs.Calls.{CallValue}
use Rattle.egl_calls.specs.declared.kinds.EglKind.{EglKind}
use Rattle.egl_calls.specs.declared.kinds.EglKind.TheVariants.{ReleaseThread}
use Rattle.egl_calls.specs.declared.errors.EglError.TheVariants.{Success}
use Rattle.call_rules.specs.EglRules.{egl_rows}
use Rattle.call_rules.proofs.EglLaws.{rows_off}
use Rattle.display_table.specs.Handles.{without, without_found}
use Rattle.display_table.specs.declared.handles.Handle.{Handle}
use Rattle.display_table.specs.declared.handles.HandleKind.{HandleKind}
use Rattle.egl_model.specs.declared.records.ClientApi.{ClientApi}
use Rattle.egl_model.specs.declared.records.ClientApi.TheVariants.{OpenGlEs}
use Rattle.egl_model.specs.declared.records.ThreadRecord.{ThreadRecord}
use Rattle.egl_model.specs.State.{State, initial, record_of, set_error}
use Rattle.egl_model.specs.Arguments.{number}
use Rattle.egl_model.specs.Handles.{destroyed, handle_at}
use Rattle.egl_model.specs.EglCalls.{egl_refusal, egl_effect}
use Rattle.egl_model.specs.Facts.{facts_of}
use Rattle.model_laws.specs.Extents.{destroyed_handle}
use Rattle.model_laws.specs.Laws.{IsAllowedEgl}
use Rattle.model_laws.specs.DisplayCalls.{IsTerminated}
use Rattle.model_laws.specs.Destroyed.{IsRemoved, KeepsCurrents}
use Rattle.egl_model.specs.MakeCurrent.{unbound}
use Rattle.egl_model.specs.Step.{step}
use Rattle.model_laws.proofs.Handles.CurrentLaws.{found_valid}
use Rattle.model_laws.proofs.Handles.DisplayLaws.{terminated_step}
use Rattle.model_laws.proofs.Steps.RefusalLaws.{allowed_egl_state, row_at, row_off}

-- what passes stays
kept_in : (p : Handle → Bool) (xs : List Handle) (h : Handle) (k : ℕ) → p h ≡ true → k < length xs → get_or xs k h ≡ h → Contains (filter p xs) h
kept_in p [] h k q l e = absurd (omega arith)
kept_in p (x ∷ xs) h zero q l e = here (p x) (ap p e ∙ q)
  where
    here : (b : Bool) → b ≡ true → Contains (cond b (x ∷ filter p xs) (filter p xs)) h
    here true r = (0, omega arith, e)
    here false r = absurd (let f : false ≡ true = r in cc)
kept_in p (x ∷ xs) h (suc k) q l e = later (p x) (kept_in p xs h k q (omega arith) e)
  where
    later : (b : Bool) → Contains (filter p xs) h → Contains (cond b (x ∷ filter p xs) (filter p xs)) h
    later true c = let l = c.1 in (suc c.0, omega (arith, l), c.2)
    later false c = c

pub stays_in : (p : Handle → Bool) (xs : List Handle) (h : Handle) → p h ≡ true → Contains xs h → Contains (filter p xs) h
stays_in p xs h q c = kept_in p xs h c.0 q c.1 c.2

-- ---- A display ends.
pub others_stay : (s : State) (t : ℕ) (c : CallValue) (h : Handle) → IsTerminated s t c → (h.display == number c 0) ≡ false → Contains s.handles h → Contains (step s t c).state.handles h
others_stay s t c h a d k = rw (terminated_step s t c a) (stays_in (λ (x : Handle). not (x.display == number c 0)) s.handles h (ap not d) k)

-- ---- A handle is destroyed.
removed_by : (hs : List Handle) (o : Option Handle) (n : ℕ) → is_some o ≡ true → ((h : Handle) → o ≡ Some h → h.number ≡ n) → without_found o hs ≡ without n hs
removed_by hs None n i e = absurd (let f : false ≡ true = i in cc)
removed_by hs (Some h) n i e = ap (λ m. without m hs) (e h refl)

without_named : (s : State) (c : CallValue) (kind : HandleKind) → is_some (handle_at s c 1 kind) ≡ true → (destroyed s c kind).handles ≡ without (number c 1) s.handles
without_named s c kind i = removed_by s.handles (handle_at s c 1 kind) (number c 1) i (λ h e. (found_valid s (number c 0) (number c 1) kind h e).has_number)

removes : (s a : State) (n : ℕ) → a.handles ≡ without n s.handles → IsRemoved s a n
removes s a n e = record {
  gone = rw e (λ k d i. not-true _ (filter_passes (λ (x : Handle). not (x.number == n)) s.handles k d i));
  others = λ h ne k. rw e (stays_in (λ (x : Handle). not (x.number == n)) s.handles h (ap not ne) k);
}

removed : (s : State) (t : ℕ) (k : EglKind) (c : CallValue) (kind : HandleKind) → IsAllowedEgl s t k c → (egl_effect s t k c).state ≡ destroyed s c kind → is_some (handle_at s c 1 kind) ≡ true → IsRemoved s (step s t c).state (number c 1)
removed s t k c kind h e i =
    removes s (step s t c).state (number c 1) (ap (λ (a : State). a.handles) (allowed_egl_state s t k c h) ∙ ap (λ (a : State). a.handles) e ∙ without_named s c kind i)

-- what a property says of the kind that a call destroys, if it destroys any
abbrev Destroys : (HandleKind → Type 0) → Option HandleKind → Type 0
Destroys P (Some kind) = P kind
Destroys P None = true ≡ true

-- Its effect, and its third row, which is off where it is given such a handle.
-- One call has a clause of its own, and the last clause goes by the cases that are left.
destroying : (s : State) (t : ℕ) (k : EglKind) (c : CallValue) → Destroys (λ kind. (egl_effect s t k c).state ≡ destroyed s c kind) (destroyed_handle k)
destroying s t ReleaseThread c = refl
destroying s t k c = refl

asking : (s : State) (t : ℕ) (k : EglKind) (c : CallValue) → Destroys (λ kind. row_at 2 (egl_rows k c (facts_of s t c)) ≡ not (is_some (handle_at s c 1 kind))) (destroyed_handle k)
asking s t ReleaseThread c = refl
asking s t k c = refl

its_effect : (s : State) (t : ℕ) (k : EglKind) (c : CallValue) (kind : HandleKind) → destroyed_handle k ≡ Some kind → (egl_effect s t k c).state ≡ destroyed s c kind
its_effect s t k c kind e = subst (Destroys (λ kind. (egl_effect s t k c).state ≡ destroyed s c kind)) e (destroying s t k c)

pub handle_removed : (s : State) (t : ℕ) (k : EglKind) (c : CallValue) (kind : HandleKind) → IsAllowedEgl s t k c → destroyed_handle k ≡ Some kind → IsRemoved s (step s t c).state (number c 1)
unfolding egl_refusal
handle_removed s t k c kind h e =
    let row = subst (Destroys (λ kind. row_at 2 (egl_rows k c (facts_of s t c)) ≡ not (is_some (handle_at s c 1 kind)))) e (asking s t k c) in
    let off = row_off 2 (egl_rows k c (facts_of s t c)) (rows_off c (facts_of s t c) k h.call.kind h.allowed) in
    removed s t k c kind h (its_effect s t k c kind e) (not-false _ (sym row ∙ off))

-- a record changes its error alone
but_error : {A : Type 0} (f : ThreadRecord → A) (ts : List ThreadRecord) (t u : ℕ) → ((r : ThreadRecord) → f (record r { error = Success }) ≡ f r) → f (get_or (set ts t (record (get_or ts t initial) { error = Success })) u initial) ≡ f (get_or ts u initial)
but_error f ts t u e =
    sym (get_or-map f (set ts t (record (get_or ts t initial) { error = Success })) u initial)
    ∙ ap (λ xs. get_or xs u (f initial)) (map-set_same f ts t (record (get_or ts t initial) { error = Success }) initial (e (get_or ts t initial)))
    ∙ get_or-map f ts u initial

currents_stay : (s a : State) (t : ℕ) → a.threads ≡ (set_error s t Success).threads → KeepsCurrents s a
currents_stay s a t e = record {
  context = λ u. ap (λ ts. (get_or ts u initial).context) e ∙ but_error (λ r. r.context) s.threads t u (λ r. refl);
  draw = λ u. ap (λ ts. (get_or ts u initial).draw) e ∙ but_error (λ r. r.draw) s.threads t u (λ r. refl);
  read = λ u. ap (λ ts. (get_or ts u initial).read) e ∙ but_error (λ r. r.read) s.threads t u (λ r. refl);
}

pub currents_kept : (s : State) (t : ℕ) (k : EglKind) (c : CallValue) (kind : HandleKind) → IsAllowedEgl s t k c → destroyed_handle k ≡ Some kind → KeepsCurrents s (step s t c).state
currents_kept s t k c kind h e =
    currents_stay s (step s t c).state t (ap (λ (a : State). a.threads) (allowed_egl_state s t k c h) ∙ ap (λ (a : State). (set_error a t Success).threads) (its_effect s t k c kind e))

-- ---- A thread is released.
one_api : (a : ClientApi) → a ≡ OpenGlEs
one_api OpenGlEs = refl

as_new : (r : ThreadRecord) → r.wait ≡ None → record r { error = Success; context = None; draw = None; read = None } ≡ initial
as_new r w = ap (λ (x : ClientApi). let y : ThreadRecord = record { error = Success; api = x; context = None; draw = None; read = None; wait = r.wait } in y) (one_api r.api)
    ∙ ap (λ (o : Option ℕ). let y : ThreadRecord = record { error = Success; api = OpenGlEs; context = None; draw = None; read = None; wait = o } in y) w

set_there : (ts : List ThreadRecord) (t : ℕ) (r d : ThreadRecord) → t < length ts → get_or (set ts t r) t d ≡ r
set_there [] t r d l = absurd (omega arith)
set_there (x ∷ ts) zero r d l = refl
set_there (x ∷ ts) (suc t) r d l = set_there ts t r d (omega arith)

length_there : (ts : List ThreadRecord) (t : ℕ) (r : ThreadRecord) → t < length ts → t < length (set ts t r)
length_there [] t r l = absurd (omega arith)
length_there (x ∷ ts) zero r l = omega arith
length_there (x ∷ ts) (suc t) r l = let a = length_there ts t r (omega arith) in omega (arith, a)

pub released_record : (s : State) (t : ℕ) (c : CallValue) → IsAllowedEgl s t ReleaseThread c → t < length s.threads → record_of (step s t c).state t ≡ initial
released_record s t c h l =
    ap (λ (a : State). record_of a t) (allowed_egl_state s t ReleaseThread c h)
    ∙ set_there (unbound s t).threads t (record (record_of (unbound s t) t) { error = Success }) initial (length_there s.threads t _ l)
    ∙ ap (λ (r : ThreadRecord). let y : ThreadRecord = record r { error = Success } in y) (set_there s.threads t _ initial l)
    ∙ as_new (record_of s t) h.call.goes
