use Rattle.screen_compose.specs.Ends.{IsTakeEnd}
use Rattle.driver_check.proofs.passing.take.Given as goal

abbrev pub invariant-taking : goal.invariant-taking
invariant-taking g l = IsTakeEnd l.frames l.end
