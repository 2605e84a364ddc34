use Rattle.object_table.proofs.DeleteLaws.{unbind_both}
use Rattle.object_table.proofs.table.ObjectTable.unbind.Goals as goal

pub returns-in-Texture-clause-objects : goal.returns-in-Texture-clause-objects
returns-in-Texture-clause-objects g c = rw c.in-Texture.is c.unbind_at.ensures.objects

pub returns-in-Buffer-clause-objects : goal.returns-in-Buffer-clause-objects
returns-in-Buffer-clause-objects g c = rw c.in-Buffer.is (unbind_both c.args.self.now.objects c.unbind_at-in-Buffer.new.self.objects c.unbind_at-in-Buffer-2.new.self.objects c.args.n c.args.object c.unbind_at-in-Buffer.ensures.objects c.unbind_at-in-Buffer-2.ensures.objects)

pub returns-in-Renderbuffer-clause-objects : goal.returns-in-Renderbuffer-clause-objects
returns-in-Renderbuffer-clause-objects g c = rw c.in-Renderbuffer.is c.unbind_at-in-Renderbuffer.ensures.objects

pub returns-in-Framebuffer-clause-objects : goal.returns-in-Framebuffer-clause-objects
returns-in-Framebuffer-clause-objects g c = rw c.in-Framebuffer.is c.unbind_at-in-Framebuffer.ensures.objects
