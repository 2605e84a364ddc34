use Rattle.object_table.proofs.StoreLaws.{object_at}
use Rattle.object_table.proofs.table.ObjectTable.pixels.Goals as goal

pub returns : goal.returns
returns c = rw (← c.self.view_is) (rw (object_at c.self.inside.next c.self.inside.store.nodes c.self.invariant.below c.args.n) c.pixels_at.ensures)
