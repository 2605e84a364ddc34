use Rattle.std.proofs.Common.{◌<◌}
use Rattle.driver_check.proofs.steps.expect_same.Given as goal

abbrev pub invariant-lines : goal.invariant-lines
invariant-lines g l = (0 < l.first.made) × (0 < l.second.made) × (0 < l.third.made)
