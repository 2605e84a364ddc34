use Rattle.std.proofs.Common.{◌≡◌, ◌+◌, ◌≤◌, length}
use Rattle.std.specs.Str.Lines.{lines}
use Rattle.journal_text.proofs.cuts.line_behind.Given as goal

abbrev pub invariant-each : goal.invariant-each
invariant-each l = record {
  number : l.number + length (lines l.rest) ≡ length (lines l.bytes) + 1;
  within : l.number + length l.rest ≤ length l.bytes + 1;
}

abbrev pub decreases-each : goal.decreases-each
decreases-each l = length l.rest
