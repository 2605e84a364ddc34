use Rattle.std.proofs.Common.{◌≡◌}
use Rattle.screen_compose.specs.Ends.{IsPutEnd}
use Rattle.driver_check.proofs.passing.composes.Given as goal

abbrev pub invariant-composing : goal.invariant-composing
invariant-composing g l = IsPutEnd l.frames l.end × (l.screen.placed ≡ l.list)
