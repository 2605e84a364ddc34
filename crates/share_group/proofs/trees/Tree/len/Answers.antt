use Rattle.share_group.proofs.ForkLaws.{names_few}
use Rattle.share_group.proofs.trees.Tree.len.Goals as goal

pub returns-in-Fork-clause-few : goal.returns-in-Fork-clause-few
returns-in-Fork-clause-few c =
    let f = rw c.in-Fork.is at c.self.invariant in
    names_few _ _ _ _ _ _ f
