-- What eglInitialize and eglTerminate change, and what they leave.
use Rattle.std.proofs.Common.{◌≡◌, ◌≢◌, ℕ, Bool, true, false, cond, not, ◌||◌, ◌==◌, refl, sym, ap, ◌∙◌, get_or, set}
use Rattle.std.specs.Prelude.{All}
use Rattle.std.proofs.Math.Seq.{map-set_same}
use Rattle.std.proofs.Math.ListN.{get_or-map}
use Rattle.std.proofs.lemmas.Bool.{eqb-true, not-true}
use Rattle.std.proofs.lemmas.List.Elements.{filter_passes}
use Rattle.egl_calls.specs.Calls.{CallValue}
use Rattle.egl_calls.specs.declared.kinds.EglKind.TheVariants.{Initialize, Terminate}
use Rattle.egl_calls.specs.declared.errors.EglError.TheVariants.{Success}
use Rattle.display_table.specs.declared.handles.Handle.{Handle}
use Rattle.egl_model.specs.declared.records.ThreadRecord.{ThreadRecord}
use Rattle.egl_model.specs.State.{State, initial, record_of, set_error}
use Rattle.egl_model.specs.Arguments.{number}
use Rattle.egl_model.specs.Displays.{is_display, is_initialized, set_initialized, terminated}
use Rattle.egl_model.specs.EglCalls.{egl_refusal}
use Rattle.egl_model.specs.Facts.{facts_of}
use Rattle.egl_model.specs.Sweep.{sweep}
use Rattle.egl_model.specs.Step.{Stepped, step}
use Rattle.model_laws.specs.DisplayCalls.{IsInitialized, IsTerminated}
use Rattle.call_rules.proofs.EglLaws.{initialize_allowed}
use Rattle.model_laws.proofs.Steps.RefusalLaws.{egl_call}
use Rattle.model_laws.proofs.Steps.StepLaws.{egl_done}

pub terminated_step : (s : State) (t : ℕ) (c : CallValue) → IsTerminated s t c → (step s t c).state ≡ sweep (set_error (terminated s (number c 0)) t Success)
terminated_step s t c h = ap (λ (x : Stepped). x.state) (egl_call s t Terminate c h.call ∙ egl_done s t Terminate c h.allowed)

pub no_handle_left : (s : State) (t : ℕ) (c : CallValue) → IsTerminated s t c → All (λ h. (h.display == number c 0) ≡ false) (step s t c).state.handles
no_handle_left s t c h =
    rw (terminated_step s t c h) (λ k d i. not-true _ (filter_passes (λ (x : Handle). not (x.display == number c 0)) s.handles k d i))

-- what f tells of a record that an error doesn't change
same_but_error : {A : Type 0} (f : ThreadRecord → A) (s : State) (t u : ℕ) (c : CallValue) → ((r : ThreadRecord) → f (record r { error = Success }) ≡ f r) → IsTerminated s t c → f (record_of (step s t c).state u) ≡ f (record_of s u)
same_but_error f s t u c e h =
    ap (λ (a : State). f (record_of a u)) (terminated_step s t c h)
    ∙ sym (get_or-map f (set s.threads t (record (record_of s t) { error = Success })) u initial)
    ∙ ap (λ xs. get_or xs u (f initial)) (map-set_same f s.threads t (record (record_of s t) { error = Success }) initial (e (record_of s t)))
    ∙ get_or-map f s.threads u initial

pub context_stays : (s : State) (t u : ℕ) (c : CallValue) → IsTerminated s t c → (record_of (step s t c).state u).context ≡ (record_of s u).context
context_stays s t u c h = same_but_error (λ r. r.context) s t u c (λ r. refl) h

pub draw_stays : (s : State) (t u : ℕ) (c : CallValue) → IsTerminated s t c → (record_of (step s t c).state u).draw ≡ (record_of s u).draw
draw_stays s t u c h = same_but_error (λ r. r.draw) s t u c (λ r. refl) h

pub read_stays : (s : State) (t u : ℕ) (c : CallValue) → IsTerminated s t c → (record_of (step s t c).state u).read ≡ (record_of s u).read
read_stays s t u c h = same_but_error (λ r. r.read) s t u c (λ r. refl) h

-- ---- The flags.
initialized_step : (s : State) (t : ℕ) (c : CallValue) → IsInitialized s t c → (step s t c).state ≡ sweep (set_error (set_initialized s (number c 0) true) t Success)
initialized_step s t c h = ap (λ (x : Stepped). x.state) (egl_call s t Initialize c h.call ∙ egl_done s t Initialize c h.allowed)

off : (a b x y : Bool) → cond a (cond a false x) (cond b (cond b false y) false) ≡ false
off true b x y = refl
off false true x y = refl
off false false x y = refl

on : (a b x y : Bool) → (a || b) ≡ true → cond a (cond a true x) (cond b (cond b true y) false) ≡ true
on true b x y h = refl
on false true x y h = refl
on false false x y h = h

-- a flag of another display is as it was
other : (a b c d v x y : Bool) → (a ≡ true → c ≡ false) → (b ≡ true → d ≡ false) → cond a (cond c v x) (cond b (cond d v y) false) ≡ cond a x (cond b y false)
other true b c d v x y f g = rw (f refl) refl
other false true c d v x y f g = rw (g refl) refl
other false false c d v x y f g = refl

apart : (d n k : ℕ) → d ≢ n → (d == k) ≡ true → (n == k) ≡ false
apart d n k ne h = differ (n == k) d n k ne h refl
  where
    differ : (b : Bool) (d n k : ℕ) → d ≢ n → (d == k) ≡ true → (n == k) ≡ b → b ≡ false
    differ true d n k ne h e = absurd (ne (eqb-true d k h ∙ sym (eqb-true n k e)))
    differ false d n k ne h e = refl

pub flag_off : (s : State) (t : ℕ) (c : CallValue) → IsTerminated s t c → is_initialized (step s t c).state (number c 0) ≡ false
flag_off s t c h = ap (λ (a : State). is_initialized a (number c 0)) (terminated_step s t c h) ∙ off (number c 0 == 1) (number c 0 == 2) s.first s.second

pub other_off : (s : State) (t d : ℕ) (c : CallValue) → IsTerminated s t c → d ≢ number c 0 → is_initialized (step s t c).state d ≡ is_initialized s d
other_off s t d c h ne =
    ap (λ (a : State). is_initialized a d) (terminated_step s t c h)
    ∙ other (d == 1) (d == 2) (number c 0 == 1) (number c 0 == 2) false s.first s.second (apart d (number c 0) 1 ne) (apart d (number c 0) 2 ne)

-- a display that is initialised is one
names_display : (s : State) (t : ℕ) (c : CallValue) → IsInitialized s t c → is_display (number c 0) ≡ true
unfolding egl_refusal
names_display s t c h = initialize_allowed c (facts_of s t c) h.call.kind h.allowed

pub flag_on : (s : State) (t : ℕ) (c : CallValue) → IsInitialized s t c → is_initialized (step s t c).state (number c 0) ≡ true
flag_on s t c h = ap (λ (a : State). is_initialized a (number c 0)) (initialized_step s t c h) ∙ on (number c 0 == 1) (number c 0 == 2) s.first s.second (names_display s t c h)

pub other_on : (s : State) (t d : ℕ) (c : CallValue) → IsInitialized s t c → d ≢ number c 0 → is_initialized (step s t c).state d ≡ is_initialized s d
other_on s t d c h ne =
    ap (λ (a : State). is_initialized a d) (initialized_step s t c h)
    ∙ other (d == 1) (d == 2) (number c 0 == 1) (number c 0 == 2) true s.first s.second (apart d (number c 0) 1 ne) (apart d (number c 0) 2 ne)
