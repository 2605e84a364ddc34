use Rattle.std.specs.Prelude.{All, vec_len, vec_capacity}
use Rattle.std.proofs.Common.{◌+◌, ◌-◌, ◌≤◌}
use Rattle.shared_driver.specs.Tokens.{IsOf}
use Rattle.driver_check.proofs.crowds.attach.Given as goal

abbrev pub invariant-attaching : goal.invariant-attaching
invariant-attaching g l = IsOf l.shared l.thread × All (λ t. IsOf l.shared t) l.tokens.items × (vec_len l.tokens + (l.threads - l._made) ≤ vec_capacity l.tokens)
