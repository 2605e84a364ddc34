use Rattle.std.proofs.Common.{refl, ap, ◌∙◌}
use Rattle.egl_model.specs.Objects.{change_framebuffer, with_framebuffer}
use Rattle.object_table.specs.Links.{renamed}
use Rattle.object_table.specs.Tables.{weight_of}
use Rattle.object_table.proofs.ChangeLaws.{Changes, changes, framebuffer_apart}
use Rattle.object_table.proofs.FramebufferLaws.{rename_weighs}
use Rattle.object_table.proofs.table.ObjectTable.rename.Goals as goal

pub returns-clause-value : goal.returns-clause-value
unfolding change_framebuffer
returns-clause-value c =
    let d : Changes c.self.inside.next c.self.inside.store c.edit_at.new.store c.args.n (with_framebuffer (renamed c.args.point c.args.attached)) = changes c.self.inside.next c.self.inside.store c.edit_at.new.store c.args.n (with_framebuffer (renamed c.args.point c.args.attached)) c.self.invariant (framebuffer_apart _) refl c.edit_at.ensures.object in
    rw (← c.self.view_is) (rw (d.objects, d.holds, d.room) refl)

pub returns-clause-weight : goal.returns-clause-weight
unfolding change_framebuffer
returns-clause-weight c =
    let d : Changes c.self.inside.next c.self.inside.store c.edit_at.new.store c.args.n (with_framebuffer (renamed c.args.point c.args.attached)) = changes c.self.inside.next c.self.inside.store c.edit_at.new.store c.args.n (with_framebuffer (renamed c.args.point c.args.attached)) c.self.invariant (framebuffer_apart _) refl c.edit_at.ensures.object in
    ap weight_of d.objects ∙ rw (← c.self.view_is) (rename_weighs c.args.point c.args.attached _ c.args.n)
