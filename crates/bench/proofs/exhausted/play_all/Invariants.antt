use Rattle.shared_driver.specs.Tokens.{IsOf}
use Rattle.bench.proofs.exhausted.play_all.Given as goal

abbrev pub invariant-lines : goal.invariant-lines
invariant-lines g l = IsOf l.shared l.token
