use Rattle.std.proofs.Common.{◌≡◌, ℕ, refl, ap, subst}
use Rattle.egl_model.specs.Bindings.{deleted_in}
use Rattle.egl_model.specs.Names.{group_of}
use Rattle.egl_model.specs.State.{State}
use Rattle.egl_model.specs.Sweep.{roots_of, swept}
use Rattle.driver_core.specs.Machine.{Machine}
use Rattle.driver_facts.specs.Tables.{state_of}
use Rattle.driver_core.proofs.DeleteLaws.{cheap_freed, deleted_swept, own_group}
use Rattle.driver_core.proofs.machine.Driver.delete_names.Goals as goal

pub returns-clause-state : goal.returns-clause-state
returns-clause-state g c =
    let s : State = state_of c.self.inside.tables.displays c.self.inside.tables.objects.objects c.self.inside.tables.threads.records c.self.inside.tables.windows c.self.inside.tables.video in
    let roots = roots_of c.self.inside.tables.displays.handles c.self.inside.tables.threads.records in
    let group : c.group_number-group.result ≡ group_of s c.args.context = c.group_number-group.ensures in
    let l = c.delete_all.ensures.objects s refl (rw group (own_group s c.args.context)) in
    let e = c.left.ensures roots _ (rw c.delete_all.ensures.holds c.self.invariant) l in
    rw (← c.self.view_is) (ap (λ (x : State). let m : Machine = record { made = c.self.inside.tables.threads.made; state = x; away = c.self.inside.tables.threads.away } in m) (deleted_swept c.args.kind s c.args.context c.args.call.now.list c.delete_all.new.objects.objects (subst (λ (g : ℕ). c.delete_all.new.objects.objects ≡ swept roots (deleted_in c.args.kind g c.args.context c.args.call.now.list s).objects) group e)))

pub returns-clause-steps : goal.returns-clause-steps
returns-clause-steps g c =
    let s : State = state_of c.self.inside.tables.displays c.self.inside.tables.objects.objects c.self.inside.tables.threads.records c.self.inside.tables.windows c.self.inside.tables.video in
    let a : State = state_of c.self.inside.tables.displays c.delete_all.new.objects.objects c.self.inside.tables.threads.records c.self.inside.tables.windows c.self.inside.tables.video in
    rw (← c.self.view_is) (cheap_freed s a c.args.steps.now c.delete_all.new.steps refl c.delete_all.ensures.steps)
