use Rattle.std.proofs.Common.{ap, refl}
use Rattle.egl_model.specs.State.{State}
use Rattle.object_table.specs.Tables.{TableValue}
use Rattle.driver_facts.specs.Tables.{state_of}
use Rattle.driver_core.proofs.RenderbufferLaws.{cheap_dropped}
use Rattle.driver_core.proofs.machine.Driver.drop_storage.Goals as goal

pub returns-clause-steps : goal.returns-clause-steps
returns-clause-steps g c =
    let s : State = state_of c.self.inside.tables.displays c.self.inside.tables.objects.objects c.self.inside.tables.threads.records c.self.inside.tables.windows c.self.inside.tables.video in
    let a : State = state_of c.self.inside.tables.displays c.link_pixels.new.self.objects c.self.inside.tables.threads.records c.self.inside.tables.windows c.self.inside.tables.video in
    rw (← c.self.view_is) (cheap_dropped s a c.set_kind.new.self.objects c.args.kind c.args.renderbuffer c.args.steps.now c.link_pixels.new.steps refl (ap (λ (v : TableValue). v.objects) c.set_kind.ensures) c.link_pixels.ensures.steps)
