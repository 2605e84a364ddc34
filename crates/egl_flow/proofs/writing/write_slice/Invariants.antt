use Rattle.std.proofs.Common.{◌≤◌, ◌-◌, length, take}
use Rattle.egl_flow.specs.Flow.{Took}
use Rattle.egl_flow.proofs.writing.write_slice.Given as goal

abbrev pub invariant-pieces : goal.invariant-pieces
invariant-pieces g l = record {
  took : Took (g.K.Sink.taken l.fn.k) (take l.at l.all) (g.K.Sink.taken l.k);
  within : l.at ≤ length l.all;
  count : g.K.Sink.faults l.fn.k ≤ g.K.Sink.faults l.k;
}

abbrev pub decreases-pieces : goal.decreases-pieces
decreases-pieces g l = length l.all - l.at
