use Rattle.shared_driver.specs.Tokens.{IsOf}
use Rattle.driver_check.proofs.crowds.attached_all.Given as goal

abbrev pub invariant-attaching : goal.invariant-attaching
invariant-attaching g l = IsOf l.shared l.thread
