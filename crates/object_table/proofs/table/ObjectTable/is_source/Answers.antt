use Rattle.object_table.proofs.ImageLaws.{same_source}
use Rattle.object_table.proofs.table.ObjectTable.is_source.Goals as goal

pub returns : goal.returns
returns c = rw (← c.self.view_is) (rw (same_source c.self.inside.next c.self.inside.store.nodes c.self.invariant.below c.args.n) c.is_source_at.ensures)
