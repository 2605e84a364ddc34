use Rattle.std.proofs.Common.{Option, ◌+◌, ◌≤◌, length, refl, subst}
use Rattle.std.specs.Prelude.{IfSome}
use Rattle.driver_objects.specs.declared.objects.Object.{Object}
use Rattle.egl_model.specs.Arguments.{number}
use Rattle.egl_model.specs.Buffers.{with_part_of}
use Rattle.egl_model.specs.Objects.{as_buffer, with_buffer, change_buffer}
use Rattle.object_table.proofs.ChangeLaws.{Changes, buffer_apart, changes}
use Rattle.object_table.proofs.StoreLaws.{object_at}
use Rattle.object_table.proofs.table.ObjectTable.set_part_of.Goals as goal

pub set_part_at-requires-clause-inside : goal.set_part_at-requires-clause-inside
set_part_at-requires-clause-inside c = subst (λ (o : Option Object). IfSome (as_buffer o) (λ b. number c.args.call.now 1 + number c.args.call.now 2 ≤ length b.contents)) (object_at c.self.inside.next c.self.inside.store.nodes c.self.invariant.below c.args.n) (rw (← c.self.view_is) at c.requires)

pub returns : goal.returns
unfolding change_buffer
returns c =
    let d : Changes c.self.inside.next c.self.inside.store c.set_part_at.new.store c.args.n (with_buffer (with_part_of c.args.call.now)) = changes c.self.inside.next c.self.inside.store c.set_part_at.new.store c.args.n (with_buffer (with_part_of c.args.call.now)) c.self.invariant (buffer_apart _) refl c.set_part_at.ensures in
    rw (← c.self.view_is) (rw (d.objects, d.holds, d.room) refl)
