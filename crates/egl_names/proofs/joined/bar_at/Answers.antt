use Rattle.std.proofs.Common.{rules, arith}
use Rattle.egl_names.proofs.JoinLaws.{place_none, place_some}
use Rattle.egl_names.proofs.joined.bar_at.Goals as goal

pub returns-clause-place : goal.returns-clause-place
returns-clause-place c = place_none _ _ (omega arith) (λ k h. c.loop-i.invariant k (omega arith))

pub returns-then-byte-eq124-clause-place : goal.returns-then-byte-eq124-clause-place
returns-then-byte-eq124-clause-place c = let e = c.if-byte-eq124.true in place_some _ _ c.loop-i-test.true c.loop-i.invariant (search rules)
