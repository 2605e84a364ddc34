use Rattle.object_table.proofs.StoreLaws.{object_at}
use Rattle.object_table.proofs.table.ObjectTable.alignments.Goals as goal

pub returns-clause-pack : goal.returns-clause-pack
returns-clause-pack c = rw (← c.self.view_is) (rw (object_at c.self.inside.next c.self.inside.store.nodes c.self.invariant.below c.args.n) c.alignments_at.ensures.pack)

pub returns-clause-unpack : goal.returns-clause-unpack
returns-clause-unpack c = rw (← c.self.view_is) (rw (object_at c.self.inside.next c.self.inside.store.nodes c.self.invariant.below c.args.n) c.alignments_at.ensures.unpack)
