use Rattle.shared_driver.specs.Tokens.{IsOf}
use Rattle.driver_check.proofs.late_texels.prepare_other.Given as goal

abbrev pub invariant-steps : goal.invariant-steps
invariant-steps g l = IsOf l.shared l.thread
