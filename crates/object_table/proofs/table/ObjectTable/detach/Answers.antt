use Rattle.object_table.proofs.FramebufferLaws.{detach_all}
use Rattle.object_table.proofs.table.ObjectTable.detach.Goals as goal

pub returns-clause-objects : goal.returns-clause-objects
returns-clause-objects g c = detach_all c.args.self.now.objects c.detach_at.new.self.objects c.detach_at-2.new.self.objects c.detach_at-3.new.self.objects c.args.n c.args.object c.detach_at.ensures.objects c.detach_at-2.ensures.objects c.detach_at-3.ensures.objects
