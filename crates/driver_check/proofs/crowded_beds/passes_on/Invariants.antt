use Rattle.shared_driver.specs.Tokens.{IsOf}
use Rattle.driver_check.proofs.crowded_beds.passes_on.Given as goal

abbrev pub invariant-turns : goal.invariant-turns
invariant-turns g l = IsOf l.shared l.thread
