use Rattle.std.proofs.Common.{refl}
use Rattle.egl_model.specs.Objects.{with_context, change_context}
use Rattle.egl_model.specs.Bindings.{named_at}
use Rattle.object_table.proofs.ChangeLaws.{Changes, changes, context_apart}
use Rattle.object_table.proofs.table.ObjectTable.bind_name.Goals as goal

pub returns : goal.returns
unfolding change_context
returns c =
    let d : Changes c.self.inside.next c.self.inside.store c.edit_at.new.store c.args.n (with_context (named_at c.args.which c.args.name)) = changes c.self.inside.next c.self.inside.store c.edit_at.new.store c.args.n (with_context (named_at c.args.which c.args.name)) c.self.invariant (context_apart _) refl c.edit_at.ensures.object in
    rw (← c.self.view_is) (rw (d.objects, d.holds, d.room) refl)
