use Rattle.std.proofs.Common.{◌≡◌, ◌-◌, ◌++◌, List}
use Rattle.std.specs.List.{flat_map, range_with_len}
use Rattle.egl_calls.specs.declared.entries.Entry.{Entry}
use Rattle.trace_session.specs.Sessions.{Knows}
use Rattle.egl_cli.specs.StalledLines.{stalled_at}
use Rattle.egl_cli.proofs.stalled_lines.put_waiting.Given as goal

abbrev pub invariant-each : goal.invariant-each
invariant-each l = (journal : List Entry) → Knows journal l.session → l.out ++ flat_map (stalled_at l.session.trace journal) (range_with_len l.thread (l.session.trace.threads - l.thread)) ≡ l.fn.out ++ flat_map (stalled_at l.session.trace journal) (range_with_len 0 l.session.trace.threads)
