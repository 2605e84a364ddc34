use Rattle.std.proofs.Common.{Option, ◌+◌, ◌≤◌, length, subst}
use Rattle.std.specs.Prelude.{IfSome}
use Rattle.driver_objects.specs.declared.objects.Object.{Object}
use Rattle.egl_model.specs.Arguments.{number}
use Rattle.egl_model.specs.Objects.{as_buffer}
use Rattle.object_table.proofs.StoreLaws.{object_at}
use Rattle.object_table.proofs.table.ObjectTable.read_part.Goals as goal

pub read_part_at-requires-clause-inside : goal.read_part_at-requires-clause-inside
read_part_at-requires-clause-inside c = subst (λ (o : Option Object). IfSome (as_buffer o) (λ b. number c.args.call.now 1 + number c.args.call.now 2 ≤ length b.contents)) (object_at c.self.inside.next c.self.inside.store.nodes c.self.invariant.below c.args.n) (rw (← c.self.view_is) at c.requires)

pub returns : goal.returns
returns c = rw (← c.self.view_is) (rw (object_at c.self.inside.next c.self.inside.store.nodes c.self.invariant.below c.args.n) c.read_part_at.ensures)
