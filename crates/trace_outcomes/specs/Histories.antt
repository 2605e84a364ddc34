-- The histories of a trace: the journals that play it until no thread can go on.
use Rattle.std.specs.Prelude.{ℕ, zero, suc, List, [], ◌∷◌, filter}
use Rattle.std.specs.List.{flat_map}
use Rattle.egl_calls.specs.declared.entries.Entry.{Entry}
use Rattle.trace_reader.specs.Traces.{TraceValue}
use Rattle.trace_model.specs.Serial.{state_behind, most_turns}
use Rattle.trace_model.specs.Stalled.{threads_of}
use Rattle.trace_model.specs.Turns.{is_able}
use Rattle.trace_session.specs.Runs.{with_entry}
use Rattle.trace_check.specs.Verdicts.{entry_due}

-- the threads of these that can go on behind a journal
abbrev pub able_among : TraceValue → List Entry → List ℕ → List ℕ
able_among t journal threads = filter (is_able t.lines journal (state_behind t journal)) threads

-- all threads that can
unfoldable pub able_threads : TraceValue → List Entry → List ℕ
able_threads t journal = able_among t journal (threads_of t)

-- a journal with the entry that a thread has next, where the thread can go on
unfoldable pub after : TraceValue → List Entry → ℕ → List Entry
after t journal thread = with_entry journal (entry_due t journal thread)

-- by the threads that can go on: where there is none the journal alone, and else what each goes on to
abbrev pub branches : List Entry → List ℕ → (ℕ → List (List Entry)) → List (List Entry)
branches journal [] more = journal ∷ []
branches journal (u ∷ us) more = flat_map more (u ∷ us)

-- the journals to which one goes on in so many turns, until no thread can; those of a lower thread stand first
unfoldable pub histories_from : ℕ → TraceValue → List Entry → List (List Entry)
histories_from zero t journal = journal ∷ []
histories_from (suc turns) t journal = branches journal (able_threads t journal) (λ u. histories_from turns t (after t journal u))

-- in as many turns as there can be
abbrev pub histories_behind : TraceValue → List Entry → List (List Entry)
histories_behind t journal = histories_from (most_turns t) t journal

abbrev pub histories : TraceValue → List (List Entry)
histories t = histories_behind t []
