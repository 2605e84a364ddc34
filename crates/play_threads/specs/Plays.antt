-- What the workers' tokens say of a journal, and what a run is.
use Rattle.std.specs.Prelude.{◌≡◌, ℕ, ◌<◌, false, [], if◌then◌else◌}
use Rattle.trace_reader.specs.Traces.{TraceValue}
use Rattle.trace_model.specs.Follows.{IsPlayOf, PlaysAs}
use Rattle.trace_model.specs.Serial.{state_behind}
use Rattle.trace_model.specs.Stalled.{IsStalled, is_complete}
use Rattle.trace_session.specs.declared.runs.RunError.{RunError}
use Rattle.trace_session.specs.declared.runs.RunError.TheVariants.{Stalled, NoMemory}
use Rattle.driver_core.specs.declared.machine.Run.{Run}
use Rattle.shared_driver.specs.declared.tokens.Shared.{Shared}
use Rattle.shared_driver.specs.Tokens.{IsOf, Owns, Token, mine, token_of}
use Rattle.play_threads.specs.Picks.{has_stalled}
use Rattle.play_threads.specs.declared.plays.Reached.{Reached}
use Rattle.play_threads.specs.declared.plays.Reached.TheVariants.{End, Stall, Neither}
use Rattle.play_threads.specs.declared.workers.Worker.{Worker}

-- a worker that has made no call. Its number is that of a thread of the trace
pub record IsReady (t : TraceValue) (s : Shared) (w : Worker) : Type 0 where
  pub owns : IsOf s w.thread
  pub number : (token_of w.thread).number < t.threads
  pub mine : mine (token_of w.thread) ≡ []
  pub ended : (token_of w.thread).ended ≡ []
  pub tail : (token_of w.thread).tail ≡ []

-- a worker that is through. Where memory didn't run out, its thread plays its lines in what it has seen
pub record IsThrough (t : TraceValue) (s : Shared) (w : Worker) : Type 0 where
  pub owns : IsOf s w.thread
  pub number : (token_of w.thread).number < t.threads
  pub plays : w.ran_out ≡ false → PlaysAs t (token_of w.thread).number (token_of w.thread).seen
  pub ended : (token_of w.thread).ended ≡ []
  pub tail : (token_of w.thread).tail ≡ []

-- each thread whose entries a token has seen to their end is one of the trace, and plays its lines there
pub record OwnersPlay (t : TraceValue) (u : Token) : Type 0 where
  pub below : (n : ℕ) → Owns u n → n < t.threads
  pub plays : (n : ℕ) → Owns u n → PlaysAs t n u.seen
  pub tail : u.tail ≡ []

-- a run's journal plays a trace, and its driver stands behind it
pub record IsRunOf (t : TraceValue) (r : Run) : Type 0 where
  pub plays : IsPlayOf t r.journal.entries
  pub state : r.driver.state ≡ state_behind t r.journal.entries

-- where a run doesn't come to its end: it has stalled, or memory ran out
abbrev pub IsStalledRunOf : TraceValue → RunError → Type 0
IsStalledRunOf t (Stalled r) = IsRunOf t r × IsStalled t r.journal.entries
IsStalledRunOf t NoMemory = Unit {0}

-- how far a run came: to the end of all threads, or to a stall, or neither
abbrev pub reached_by : TraceValue → Run → Reached
reached_by t r = if is_complete t r.journal.entries then End else (if has_stalled t r.journal.entries r.driver then Stall else Neither)
