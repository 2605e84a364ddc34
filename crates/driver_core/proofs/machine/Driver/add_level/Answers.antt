use Rattle.std.proofs.Common.{List, Option, [], ◌∷◌, ◌++◌, Some, length, ap, refl, ◌∙◌}
use Rattle.driver_objects.specs.declared.objects.Object.{Object}
use Rattle.driver_objects.specs.declared.objects.Object.TheVariants.{Storage}
use Rattle.egl_model.specs.State.{State}
use Rattle.egl_model.specs.Sweep.{roots_of}
use Rattle.egl_model.specs.Textures.{change_pixels}
use Rattle.driver_facts.specs.Tables.{state_of}
use Rattle.driver_core.proofs.LevelLaws.{cheap_level, held_again, left_after}
use Rattle.driver_facts.proofs.RootLaws.{first_held}
use Rattle.driver_core.proofs.machine.Driver.add_level.Goals as goal

pub release-requires : goal.release-requires
release-requires g c =
    let roots = roots_of c.self.inside.tables.displays.handles c.self.inside.tables.threads.records in
    let k = held_again c.len-new.result roots c.make_one.new.self.holds c.link_pixels.new.self.holds c.link_pixels.ensures.holds (rw c.len-new.ensures.value (c.make_one.ensures.held roots (rw c.reserve.ensures.holds c.self.invariant))) in
    record { held = first_held c.len-new.result roots c.link_pixels.new.self.holds k }

pub returns-clause-state : goal.returns-clause-state
returns-clause-state g c =
    let roots = roots_of c.self.inside.tables.displays.handles c.self.inside.tables.threads.records in
    let k = held_again c.len-new.result roots c.make_one.new.self.holds c.link_pixels.new.self.holds c.link_pixels.ensures.holds (rw c.len-new.ensures.value (c.make_one.ensures.held roots (rw c.reserve.ensures.holds c.self.invariant))) in
    let w = c.make_one.ensures.objects ∙ ap (λ (os : List (Option Object)). os ++ Some (Storage c.args.storage) ∷ []) c.reserve.ensures.objects in
    let n = c.len-new.ensures.value ∙ ap length c.reserve.ensures.objects in
    let o = left_after c.link_pixels.new.self c.release.new.self (change_pixels c.args.level (Some c.len-new.result) c.args.texture c.make_one.new.self.objects) c.len-new.result c.link_pixels.new.steps c.release.new.steps roots c.link_pixels.ensures.objects k c.release.ensures c.left.ensures in
    rw (← c.self.view_is) (rw (o, w, n) refl)

pub returns-clause-steps : goal.returns-clause-steps
returns-clause-steps g c =
    let s : State = state_of c.self.inside.tables.displays c.self.inside.tables.objects.objects c.self.inside.tables.threads.records c.self.inside.tables.windows c.self.inside.tables.video in
    let a : State = state_of c.self.inside.tables.displays c.release.new.self.objects c.self.inside.tables.threads.records c.self.inside.tables.windows c.self.inside.tables.video in
    let w = c.make_one.ensures.objects ∙ ap (λ (os : List (Option Object)). os ++ Some (Storage c.args.storage) ∷ []) c.reserve.ensures.objects in
    rw (← c.self.view_is) (cheap_level s a c.link_pixels.new.self.objects c.make_one.new.self.objects c.args.storage c.args.steps.now c.link_pixels.new.steps c.release.new.steps refl w c.link_pixels.ensures.steps c.release.ensures.steps)
