use Rattle.screen_compose.specs.Ends.{IsTakeEnd}
use Rattle.driver_check.proofs.passing.records.Given as goal

abbrev pub invariant-recording : goal.invariant-recording
invariant-recording g l = IsTakeEnd l.frames l.end
