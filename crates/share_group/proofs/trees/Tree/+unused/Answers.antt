use Rattle.std.proofs.Common.{arith}
use Rattle.share_group.proofs.ForkLaws.{rise-fork, unused-then, unused-else}
use Rattle.share_group.proofs.trees.Tree.+unused.Goals as goal

pub returns-then-from-len-clause-unused : goal.returns-then-from-len-clause-unused
returns-then-from-len-clause-unused t c =
    let f = rw c.in-Fork.is at c.self.invariant in
    rw (← c.self.view_is, c.in-Fork.is) (unused-then _ _ _ _ _ _ f c.unused.result c.deref-then-from-len.result.now c.deref.result.now (omega arith) c.deref.ensures c.deref-then-from-len.ensures c.unused.ensures.unused)

pub returns-then-from-len-clause-rise : goal.returns-then-from-len-clause-rise
returns-then-from-len-clause-rise t c =
    let f = rw c.in-Fork.is at c.self.invariant in
    rw (← c.self.view_is, c.in-Fork.is) (rise-fork _ _ _ _ _ _ f)

pub returns-else-from-len-clause-unused : goal.returns-else-from-len-clause-unused
returns-else-from-len-clause-unused t c =
    let f = rw c.in-Fork.is at c.self.invariant in
    rw (← c.self.view_is, c.in-Fork.is) (unused-else _ _ _ _ _ _ f c.unused-else-from-len.result c.deref-else-from-len.result.now c.deref.result.now (λ e. c.if-from-len.false (omega arith)) c.deref.ensures c.deref-else-from-len.ensures c.unused-else-from-len.ensures.unused)

pub returns-else-from-len-clause-rise : goal.returns-else-from-len-clause-rise
returns-else-from-len-clause-rise t c =
    let f = rw c.in-Fork.is at c.self.invariant in
    rw (← c.self.view_is, c.in-Fork.is) (rise-fork _ _ _ _ _ _ f)
