use Rattle.std.proofs.Common.{ap, refl}
use Rattle.egl_model.specs.State.{State}
use Rattle.object_table.specs.Tables.{TableValue}
use Rattle.driver_facts.specs.Tables.{state_of}
use Rattle.driver_core.proofs.LevelLaws.{bound_there, cheap_bound}
use Rattle.driver_core.proofs.machine.Driver.bind_object.Goals as goal

pub link_bound-requires : goal.link_bound-requires
link_bound-requires g c = bound_there c.self.inside.tables.objects.objects c.bind_name.new.self.objects c.binding.result c.args.name c.args.context c.args.object (ap (λ (v : TableValue). v.objects) c.bind_name.ensures) (rw (← c.self.view_is) at c.requires.object)

pub returns-clause-steps : goal.returns-clause-steps
returns-clause-steps g c =
    let s : State = state_of c.self.inside.tables.displays c.self.inside.tables.objects.objects c.self.inside.tables.threads.records c.self.inside.tables.windows c.self.inside.tables.video in
    let a : State = state_of c.self.inside.tables.displays c.link_bound.new.self.objects c.self.inside.tables.threads.records c.self.inside.tables.windows c.self.inside.tables.video in
    rw (← c.self.view_is) (cheap_bound s a c.bind_name.new.self.objects c.binding.result c.args.name c.args.context c.args.steps.now c.link_bound.new.steps refl (ap (λ (v : TableValue). v.objects) c.bind_name.ensures) c.link_bound.ensures.steps)
