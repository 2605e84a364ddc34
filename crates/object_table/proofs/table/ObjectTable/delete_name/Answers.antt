use Rattle.object_table.proofs.DeleteLaws.{delete_left}
use Rattle.object_table.proofs.table.ObjectTable.delete_name.Goals as goal

pub returns-clause-objects : goal.returns-clause-objects
returns-clause-objects g c w is own = delete_left c.args.kind w c.args.self.now.objects c.delete_here.new.self.objects c.args.self.now.holds c.delete_here.new.self.holds c.args.group c.args.n c.args.name c.leads_down.ensures c.contexts_held.ensures c.held_exist.ensures c.delete_here.ensures.holds c.delete_here.ensures.objects is own
