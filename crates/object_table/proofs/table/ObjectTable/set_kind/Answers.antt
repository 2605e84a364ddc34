use Rattle.std.proofs.Common.{refl}
use Rattle.egl_model.specs.Objects.{change_renderbuffer, with_renderbuffer}
use Rattle.egl_model.specs.Renderbuffers.{with_kind}
use Rattle.object_table.proofs.ChangeLaws.{Changes, changes, renderbuffer_apart}
use Rattle.object_table.proofs.table.ObjectTable.set_kind.Goals as goal

pub returns : goal.returns
unfolding change_renderbuffer
returns c =
    let d : Changes c.self.inside.next c.self.inside.store c.edit_at.new.store c.args.n (with_renderbuffer (with_kind c.args.kind)) = changes c.self.inside.next c.self.inside.store c.edit_at.new.store c.args.n (with_renderbuffer (with_kind c.args.kind)) c.self.invariant (renderbuffer_apart _) refl c.edit_at.ensures.object in
    rw (← c.self.view_is) (rw (d.objects, d.holds, d.room) refl)
