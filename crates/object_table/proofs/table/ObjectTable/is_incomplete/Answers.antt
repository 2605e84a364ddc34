use Rattle.object_table.proofs.ImageLaws.{same_incomplete}
use Rattle.object_table.proofs.table.ObjectTable.is_incomplete.Goals as goal

pub returns : goal.returns
returns c = rw (← c.self.view_is) (rw (same_incomplete c.self.inside.next c.self.inside.store.nodes c.self.invariant.below c.args.n) c.is_incomplete_at.ensures)
