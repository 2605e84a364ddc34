use Rattle.std.proofs.Common.{◌≡◌, length}
use Rattle.trace_outcomes.specs.Recordings.{are_same}
use Rattle.trace_outcomes.proofs.recordings.are_same.Given as goal

abbrev pub invariant-each : goal.invariant-each
invariant-each l = are_same l.left l.right ≡ are_same l.texts l.others

abbrev pub decreases-each : goal.decreases-each
decreases-each l = length l.left
