-- The lines at which the threads of a stalled run wait.
use Rattle.std.specs.Prelude.{ℕ, List, [], ◌++◌, codes, Option, None, Some}
use Rattle.std.specs.List.{flat_map}
use Rattle.std.specs.Option.{option_map}
use Rattle.egl_calls.specs.declared.entries.Entry.{Entry}
use Rattle.trace_reader.specs.Traces.{TraceValue}
use Rattle.trace_model.specs.Turns.{next_line}
use Rattle.trace_model.specs.Stalled.{threads_of}
use Rattle.egl_cli.specs.Places.{place_words}

-- stalled THREAD LINE, and nothing of a thread that is at its end
abbrev pub stalled_line : ℕ → Option ℕ → List ℕ
stalled_line thread None = []
stalled_line thread (Some number) = codes "stalled " ++ place_words thread number ++ codes "\n"

-- the line of a thread's next line behind a journal
abbrev pub stalled_at : TraceValue → List Entry → ℕ → List ℕ
stalled_at t journal thread = stalled_line thread (option_map (λ l. l.number) (next_line t.lines journal thread))

-- of each thread that isn't at its end behind a journal, in rising order
unfoldable pub stalled_lines : TraceValue → List Entry → List ℕ
stalled_lines t journal = flat_map (stalled_at t journal) (threads_of t)
