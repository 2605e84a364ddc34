use Rattle.std.proofs.Common.{refl}
use Rattle.egl_model.specs.Objects.{with_buffer, change_buffer}
use Rattle.object_table.proofs.ChangeLaws.{Changes, buffer_apart, changes}
use Rattle.object_table.proofs.table.ObjectTable.put_contents.Goals as goal

pub returns : goal.returns
unfolding change_buffer
returns c =
    let d : Changes c.self.inside.next c.self.inside.store c.put_contents_at.new.store c.args.n (with_buffer (λ b. c.args.contents)) = changes c.self.inside.next c.self.inside.store c.put_contents_at.new.store c.args.n (with_buffer (λ b. c.args.contents)) c.self.invariant (buffer_apart _) refl c.put_contents_at.ensures in
    rw (← c.self.view_is) (rw (d.objects, d.holds, d.room) refl)
