use Rattle.std.proofs.Common.{◌≡◌, ◌++◌, drop, map}
use Rattle.journal_text.specs.Written.{line_of_entry}
use Rattle.trace_outcomes.proofs.recordings.lines_of.Given as goal

abbrev pub invariant-each : goal.invariant-each
invariant-each l = l.lines.items ++ map line_of_entry (drop l.entry-index l.entries) ≡ map line_of_entry l.entries
