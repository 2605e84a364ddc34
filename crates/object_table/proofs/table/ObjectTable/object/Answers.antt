use Rattle.std.proofs.Common.{sym, ◌∙◌}
use Rattle.object_table.proofs.StoreLaws.{object_at}
use Rattle.object_table.proofs.table.ObjectTable.object.Goals as goal

pub returns : goal.returns
returns c = rw (← c.self.view_is) (c.object_at.ensures ∙ sym (object_at c.self.inside.next c.self.inside.store.nodes c.self.invariant.below c.args.n))
