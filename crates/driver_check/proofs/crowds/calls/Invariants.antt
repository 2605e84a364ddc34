use Rattle.shared_driver.specs.Tokens.{IsOf}
use Rattle.driver_check.proofs.crowds.calls.Given as goal

abbrev pub invariant-calling : goal.invariant-calling
invariant-calling g l = IsOf l.shared l.thread
