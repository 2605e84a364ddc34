use Rattle.shared_driver.specs.Tokens.{IsOf}
use Rattle.driver_check.proofs.sides.sleeps.Given as goal

abbrev pub invariant-marks : goal.invariant-marks
invariant-marks g l = IsOf l.shared l.thread
