use Rattle.share_group.proofs.ForkLaws.{object_in-lower, object_in-upper}
use Rattle.share_group.proofs.trees.Tree.+object_at.Goals as goal

pub returns-then-k-below : goal.returns-then-k-below
returns-then-k-below t c =
    let f = rw c.in-Fork.is at c.self.invariant in
    rw (← c.self.view_is, c.in-Fork.is) (object_in-lower _ _ _ _ _ _ f c.object_at.result c.args.k c.object_count-below.result c.deref-then-k-below.result.now c.deref.result.now c.object_count-below.ensures.len c.deref.ensures c.if-k-below.true c.deref-then-k-below.ensures c.object_at.ensures)

pub returns-else-k-below : goal.returns-else-k-below
returns-else-k-below t c =
    let f = rw c.in-Fork.is at c.self.invariant in
    rw (← c.self.view_is, c.in-Fork.is) (object_in-upper _ _ _ _ _ _ f c.object_at-else-k-below.result c.args.k c.object_count-below.result c.deref-else-k-below.result.now c.deref.result.now c.object_count-below.ensures.len c.deref.ensures c.if-k-below.false c.deref-else-k-below.ensures c.object_at-else-k-below.ensures)
