use Rattle.shared_driver.specs.Tokens.{IsOf}
use Rattle.bench.proofs.threads.together.closed.Given as goal

abbrev pub invariant-waiting : goal.invariant-waiting
invariant-waiting g l = IsOf l.shared l.first
