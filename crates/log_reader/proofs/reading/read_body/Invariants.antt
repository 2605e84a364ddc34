use Rattle.std.proofs.Common.{◌≡◌, ◌+◌, ◌≤◌, length}
use Rattle.std.specs.Str.Lines.{lines}
use Rattle.log_reader.specs.Order.{AreBefore}
use Rattle.log_reader.specs.Grammar.{read_body}
use Rattle.log_reader.specs.Items.{empty}
use Rattle.log_reader.proofs.reading.read_body.Given as goal

abbrev pub invariant-each : goal.invariant-each
invariant-each l = record {
  read : read_body l.head l.number l.body (lines l.rest) ≡ read_body l.head l.first empty (lines l.bytes);
  number : l.number + length l.rest ≤ l.first + length l.bytes;
  order : AreBefore l.head.head.threads l.head.head.windows l.number (length l.body.names) l.body.items;
}

abbrev pub decreases-each : goal.decreases-each
decreases-each l = length l.rest
