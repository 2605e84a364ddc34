use Rattle.screen_compose.specs.Ends.{IsPutEnd}
use Rattle.driver_check.proofs.passing.put.Given as goal

abbrev pub invariant-putting : goal.invariant-putting
invariant-putting g l = IsPutEnd l.frames l.end
