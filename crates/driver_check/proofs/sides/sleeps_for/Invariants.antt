use Rattle.shared_driver.specs.Tokens.{IsOf}
use Rattle.driver_check.proofs.sides.sleeps_for.Given as goal

abbrev pub invariant-looking : goal.invariant-looking
invariant-looking g l = IsOf l.shared l.thread
