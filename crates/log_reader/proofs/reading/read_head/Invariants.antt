use Rattle.std.proofs.Common.{◌≡◌, ◌+◌, ◌≤◌, length}
use Rattle.std.specs.Str.Lines.{lines}
use Rattle.log_reader.specs.Heads.{begun}
use Rattle.log_reader.specs.Grammar.{read_on}
use Rattle.log_reader.proofs.reading.read_head.Given as goal

abbrev pub invariant-each : goal.invariant-each
invariant-each l = record {
  read : read_on l.head l.number (lines l.rest) ≡ read_on (begun l.threads) 2 (lines l.bytes);
  number : l.number + length l.rest ≤ length l.bytes + 2;
  above : 2 ≤ l.number;
}

abbrev pub decreases-each : goal.decreases-each
decreases-each l = length l.rest
