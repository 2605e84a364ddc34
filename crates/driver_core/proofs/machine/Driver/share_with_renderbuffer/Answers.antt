use Rattle.std.proofs.Common.{ap, refl}
use Rattle.egl_model.specs.State.{State}
use Rattle.object_table.specs.Tables.{TableValue}
use Rattle.driver_facts.specs.Tables.{state_of}
use Rattle.driver_facts.proofs.ImageLaws.{pixels_stay}
use Rattle.driver_core.proofs.RenderbufferLaws.{cheap_dropped}
use Rattle.driver_core.proofs.machine.Driver.share_with_renderbuffer.Goals as goal

pub link_pixels-requires-clause-target : goal.link_pixels-requires-clause-target
link_pixels-requires-clause-target g c =
    let e = ap (λ (v : TableValue). v.objects) c.set_kind.ensures in
    pixels_stay _ c.args.renderbuffer c.args.image.storage c.self.inside.tables.objects.objects c.set_kind.new.self.objects e (rw (← c.self.view_is) at c.requires)

pub returns-clause-steps : goal.returns-clause-steps
returns-clause-steps g c =
    let s : State = state_of c.self.inside.tables.displays c.self.inside.tables.objects.objects c.self.inside.tables.threads.records c.self.inside.tables.windows c.self.inside.tables.video in
    let a : State = state_of c.self.inside.tables.displays c.link_pixels.new.self.objects c.self.inside.tables.threads.records c.self.inside.tables.windows c.self.inside.tables.video in
    rw (← c.self.view_is) (cheap_dropped s a c.set_kind.new.self.objects _ c.args.renderbuffer c.args.steps.now c.link_pixels.new.steps refl (ap (λ (v : TableValue). v.objects) c.set_kind.ensures) c.link_pixels.ensures.steps)
