use Rattle.std.proofs.Common.{◌≡◌, ◌≤◌, ◌+◌, ◌-◌, length}
use Rattle.egl_flow.specs.Flow.{Gave}
use Rattle.egl_flow.proofs.reading.read_all.Given as goal

abbrev pub invariant-pieces : goal.invariant-pieces
invariant-pieces g l = record {
  read : Gave (g.S.Source.left l.fn.s) l.bytes (g.S.Source.left l.s);
  within : length l.bytes ≤ l.limit;
  steady : g.S.Source.faults l.s ≡ g.S.Source.faults l.fn.s;
}

abbrev pub decreases-pieces : goal.decreases-pieces
decreases-pieces g l = l.limit + 1 - length l.bytes
