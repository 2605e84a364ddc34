use Rattle.std.proofs.Common.{◌≡◌, ◌+◌, ◌≤◌, length, None}
use Rattle.std.specs.Option.{option_map}
use Rattle.std.specs.Str.Lines.{lines}
use Rattle.log_reader.specs.Order.{AreBefore}
use Rattle.log_reader.specs.Grammar.{read_end}
use Rattle.log_reader.proofs.reading.read_end.Given as goal

abbrev pub invariant-each : goal.invariant-each
invariant-each l = record {
  read : read_end l.head l.pending (option_map (λ w. w.now) l.word) l.number l.body (lines l.rest) ≡ read_end l.head l.pending None l.first l.fn.body (lines l.bytes);
  number : l.number + length l.rest ≤ l.first + length l.bytes;
  order : AreBefore l.head.head.threads l.head.head.windows l.number (length l.body.names) l.body.items;
}

abbrev pub decreases-each : goal.decreases-each
decreases-each l = length l.rest
