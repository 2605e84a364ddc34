use Rattle.shared_driver.specs.Tokens.{IsOf}
use Rattle.driver_check.proofs.drawing.draws.Given as goal

abbrev pub invariant-drawing : goal.invariant-drawing
invariant-drawing g l = IsOf l.shared l.thread
