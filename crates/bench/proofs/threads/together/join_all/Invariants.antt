use Rattle.std.specs.Prelude.{All, vec_len}
use Rattle.shared_driver.specs.Tokens.{IsOf}
use Rattle.bench.proofs.threads.together.join_all.Given as goal

abbrev pub invariant-joining : goal.invariant-joining
invariant-joining g l = IsOf l.shared l.first × All (λ t. IsOf l.shared t) l.tokens.items

abbrev pub decreases-joining : goal.decreases-joining
decreases-joining g l = vec_len l.tokens
