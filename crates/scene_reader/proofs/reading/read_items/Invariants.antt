use Rattle.std.proofs.Common.{◌≡◌, ◌+◌, ◌≤◌, length, []}
use Rattle.std.specs.Str.Lines.{lines}
use Rattle.scene_reader.specs.Grammar.{read_items}
use Rattle.scene_reader.proofs.reading.read_items.Given as goal

abbrev pub invariant-each : goal.invariant-each
invariant-each l = record {
  read : read_items l.progress l.number (lines l.rest) ≡ read_items [] 2 (lines l.bytes);
  number : l.number + length l.rest ≤ length l.bytes + 2;
}

abbrev pub decreases-each : goal.decreases-each
decreases-each l = length l.rest
