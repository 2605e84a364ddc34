use Rattle.shared_driver.specs.Tokens.{IsOf}
use Rattle.driver_check.proofs.places.queries.Given as goal

abbrev pub invariant-querying : goal.invariant-querying
invariant-querying g l = IsOf l.shared l.thread
