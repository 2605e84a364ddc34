-- How a worker's entries stand in the journal, and those that it hasn't handed in behind it.
use Rattle.std.specs.Prelude.{◌≡◌, ◌==◌, ◌&&◌, ℕ, Bool, false, List, [], ◌∷◌, ◌++◌, length}
use Rattle.egl_calls.specs.Calls.{ReplyValue}
use Rattle.egl_calls.specs.declared.entries.Entry.{Entry}
use Rattle.trace_reader.specs.Traces.{TraceValue}
use Rattle.trace_reader.specs.declared.traces.Line.{Line}
use Rattle.trace_model.specs.Follows.{PlaysAs}
use Rattle.trace_session.specs.Answers.{IsLone}
use Rattle.trace_session.specs.Sessions.{Knows}
use Rattle.shared_driver.specs.Cores.{entry, halt_call}
use Rattle.shared_driver.specs.Tokens.{Token, may_be_local}
use Rattle.play_threads.specs.declared.pickers.LinePicker.{LinePicker}

-- a thread played its lines, and then gave up
abbrev pub GaveUp : TraceValue → ℕ → List Entry → Type 0
GaveUp t thread es = (before : List Entry) × (r : ReplyValue) × (es ≡ before ++ entry thread 0 halt_call r ∷ []) × PlaysAs t thread before

-- an entry plays the next line of its thread, which waits for nobody
pub record PlaysLone (t : TraceValue) (thread : ℕ) (journal : List Entry) (e : Entry) : Type 0 where
  pub line : Line
  pub lone : IsLone t journal thread line
  pub own : e.thread ≡ thread
  pub mark : e.mark ≡ line.number
  pub call : e.call ≡ line.call

-- behind a journal, each of a thread's entries does so behind those before it
abbrev pub PlayLone : TraceValue → ℕ → List Entry → List Entry → Type 0
PlayLone t thread journal [] = Unit {0}
PlayLone t thread journal (e ∷ es) = PlaysLone t thread journal e × PlayLone t thread (journal ++ e ∷ []) es

-- the token's private part answers the call of a line, which has no list
abbrev pub is_local_line : Token → Line → Bool
is_local_line t l = (length l.call.list == 0) && may_be_local t l.call

-- the next line of a picker's thread waits for somebody, or isn't one that the private part answers
abbrev pub NoLoneLeft : LinePicker → Token → Type 0
NoLoneLeft p t = (es : List Entry) (l : Line) → Knows es p.session → IsLone p.session.trace es p.thread l → is_local_line t l ≡ false
