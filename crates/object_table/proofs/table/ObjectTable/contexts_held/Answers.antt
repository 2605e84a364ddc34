use Rattle.object_table.proofs.MakeLaws.{contexts_held}
use Rattle.object_table.proofs.table.ObjectTable.contexts_held.Goals as goal

pub returns : goal.returns
returns c = rw (← c.self.view_is) (contexts_held c.self.inside.next c.self.inside.store.nodes c.self.invariant.below c.edges_lead_down.ensures c.self.invariant.held)
