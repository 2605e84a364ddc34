use Rattle.std.proofs.Common.{◌≡◌, ◌++◌, drop, map}
use Rattle.trace_outcomes.specs.Recordings.{told_line}
use Rattle.trace_outcomes.proofs.told_entries.told_lines.Given as goal

abbrev pub invariant-each : goal.invariant-each
invariant-each l = l.texts.items ++ map (told_line l.lines l.entries) (drop l.entry-index l.entries) ≡ map (told_line l.lines l.entries) l.entries
