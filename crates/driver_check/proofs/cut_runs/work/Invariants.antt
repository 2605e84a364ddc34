use Rattle.shared_driver.specs.Tokens.{IsOf}
use Rattle.driver_check.proofs.cut_runs.work.Given as goal

abbrev pub invariant-turns : goal.invariant-turns
invariant-turns g l = IsOf l.shared l.thread
