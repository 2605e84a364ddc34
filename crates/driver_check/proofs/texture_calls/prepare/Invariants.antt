use Rattle.shared_driver.specs.Tokens.{IsOf}
use Rattle.driver_check.proofs.texture_calls.prepare.Given as goal

abbrev pub invariant-steps : goal.invariant-steps
invariant-steps g l = IsOf l.shared l.thread
