use Rattle.share_group.proofs.ForkLaws.{objects-fork, objects_are_few}
use Rattle.share_group.proofs.trees.Tree.object_count.Goals as goal

pub returns-in-Fork : goal.returns-in-Fork
returns-in-Fork c =
    let f = rw c.in-Fork.is at c.self.invariant in
    rw (← c.self.view_is, c.in-Fork.is) (record { len = objects-fork _ _ _ _ _ _ f; few = objects_are_few _ _ _ _ _ _ f })
