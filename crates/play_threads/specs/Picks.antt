-- What a worker picks in its turn.
use Rattle.std.specs.Prelude.{◌≡◌, ◌≢◌, ◌⊎◌, ℕ, ◌<◌, ◌≤◌, Bool, true, false, not, ◌&&◌, ◌==◌, nat_le, List, [], ◌∷◌, ◌++◌, length, take, Some}
use Rattle.std.specs.List.{list_any}
use Rattle.egl_calls.specs.Journals.{are_halted, is_halt}
use Rattle.egl_calls.specs.declared.entries.Entry.{Entry}
use Rattle.egl_model.specs.State.{State}
use Rattle.driver_core.specs.Machine.{Machine}
use Rattle.trace_reader.specs.declared.traces.Line.{Line}
use Rattle.trace_reader.specs.Traces.{TraceValue}
use Rattle.trace_model.specs.Turns.{next_line, goes_on, is_at_end, is_blocked}
use Rattle.trace_model.specs.Serial.{next_call}
use Rattle.trace_model.specs.Stalled.{is_stalled}
use Rattle.trace_session.specs.Answers.{IsLone}
use Rattle.trace_session.specs.Sessions.{Knows}
use Rattle.shared_driver.specs.Cores.{of_number}
use Rattle.shared_driver.specs.declared.picks.Pick.{Pick}
use Rattle.shared_driver.specs.declared.picks.Pick.TheVariants.{Call, Wait, Stop}
use Rattle.play_threads.specs.declared.pickers.LinePicker.{LinePicker}

-- an entry by which another thread gave up
abbrev pub is_halt_beside : ℕ → Entry → Bool
is_halt_beside thread e = is_halt e && not (e.thread == thread)

-- whether another thread gave up
abbrev pub have_others_halted : ℕ → List Entry → Bool
have_others_halted thread es = list_any (is_halt_beside thread) es

-- a picker has learnt the entries of other threads in a journal, up to a place, and these of its own
pub record HasLearnt (p : LinePicker) (own es : List Entry) : Type 0 where
  pub within : p.learnt ≤ length es
  pub learned : List Entry
  pub knows : Knows learned p.session
  pub mine : of_number p.thread learned ≡ own
  pub others : (n : ℕ) → n ≢ p.thread → of_number n learned ≡ of_number n (take p.learnt es)
  pub halted : p.halted ≡ have_others_halted p.thread (take p.learnt es)

-- The call that a picker picked last was answered, and its entry stands where the picker awaits it. Before that it had learnt its own entries
pub record IsTold (p : LinePicker) (own es : List Entry) : Type 0 where
  pub before : List Entry
  pub last : Entry
  pub more : List Entry
  pub place : p.asked ≡ length before
  pub learnt : HasLearnt p (of_number p.thread before) before
  pub mine : last.thread ≡ p.thread
  pub own_now : own ≡ of_number p.thread before ++ last ∷ []
  pub whole : es ≡ before ++ last ∷ more

-- a picker knows its own entries in a journal, by what it has learnt, and the answer that it was told
abbrev pub KnowsOwn : LinePicker → Bool → List Entry → List Entry → Type 0
KnowsOwn p false own es = HasLearnt p own es
KnowsOwn p true own es = IsTold p own es

-- a picker may look at a journal that goes on behind what it learnt and whose entries of its own it knows, and at a driver that has its thread
pub record MayLook (p : LinePicker) (es : List Entry) (d : Machine) : Type 0 where
  pub learnt : KnowsOwn p p.answered (of_number p.thread es) es
  pub thread : p.thread < p.session.trace.threads
  pub made : p.thread < d.made

-- nothing is left to play for a thread: it is at its end, or the run has stalled, or another thread gave up
abbrev pub IsOver : TraceValue → List Entry → State → ℕ → Type 0
IsOver t es s thread = (is_at_end t.lines es thread ≡ true) ⊎ (is_stalled t es s ≡ true) ⊎ (have_others_halted thread es ≡ true)

-- the call that a thread makes next, with its line's number; nothing now where the thread is blocked, and nothing any more where nothing is left
abbrev pub IsPickOf : TraceValue → List Entry → State → ℕ → Pick → Type 0
IsPickOf t es s thread (Call mark call) = (l : Line) × (next_line t.lines es thread ≡ Some l) × (goes_on t.lines es s thread l ≡ true) × (mark ≡ l.number) × (call ≡ next_call t.lines es thread l)
IsPickOf t es s thread (Wait what) = is_blocked t.lines es s thread ≡ true
IsPickOf t es s thread Stop = IsOver t es s thread

-- the pick by the thread's own entries alone, in a journal in which nobody gave up where it is a call: its next line waits for nobody, or it is at its end
abbrev pub IsOwnPick : TraceValue → List Entry → List Entry → ℕ → Pick → Type 0
IsOwnPick t es journal thread (Call mark call) = (l : Line) × IsLone t es thread l × (mark ≡ l.number) × (call ≡ l.call) × (are_halted journal ≡ false)
IsOwnPick t es journal thread (Wait what) = ⊥
IsOwnPick t es journal thread Stop = is_at_end t.lines es thread ≡ true

-- whether a run has stalled. While threads of the trace have no token yet, it hasn't
abbrev pub has_stalled : TraceValue → List Entry → Machine → Bool
has_stalled t es d = nat_le t.threads d.made && is_stalled t es d.state

-- A thread that calls or waits isn't over. While threads of the trace have no token yet, one that waits may stand in a stall
abbrev pub GoesOn : TraceValue → List Entry → Machine → ℕ → Pick → Type 0
GoesOn t es d thread (Call mark call) = ¬ (IsOver t es d.state thread)
GoesOn t es d thread (Wait what) = (have_others_halted thread es ≡ false) × (t.threads ≤ d.made → ¬ (IsOver t es d.state thread))
GoesOn t es d thread Stop = Unit {0}

-- a picker that has learnt what it was told, and all entries unless its next line waits for nobody, gave the pick of its thread
pub record Picks (p : LinePicker) (es : List Entry) (d : Machine) (k : Pick) (q : LinePicker) : Type 0 where
  pub thread : q.thread ≡ p.thread
  pub trace : q.session.trace ≡ p.session.trace
  pub enough : (q.learnt ≡ length es) ⊎ ((l : Line) → next_line p.session.trace.lines es p.thread ≡ Some l → IsLone p.session.trace es p.thread l)
  pub learnt : HasLearnt q (of_number p.thread es) es
  pub told : q.answered ≡ false
  pub asked : q.asked ≡ length es
  pub pick : IsPickOf p.session.trace es d.state p.thread k
  pub goes_on : GoesOn p.session.trace es d p.thread k
