use Rattle.shared_driver.specs.Tokens.{IsOf}
use Rattle.bench.proofs.threads.together.calls.Given as goal

abbrev pub invariant-calls : goal.invariant-calls
invariant-calls g l = IsOf l.shared l.token
