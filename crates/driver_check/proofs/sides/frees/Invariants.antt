use Rattle.shared_driver.specs.Tokens.{IsOf}
use Rattle.driver_check.proofs.sides.frees.Given as goal

abbrev pub invariant-seeing : goal.invariant-seeing
invariant-seeing g l = IsOf l.shared l.thread
