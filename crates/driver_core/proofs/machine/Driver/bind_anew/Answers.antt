use Rattle.std.proofs.Common.{◌≡◌, ◌∙◌, ap, refl, length, Some}
use Rattle.driver_objects.specs.Targets.{binding_of, name_kind}
use Rattle.egl_model.specs.Names.{with_name_of}
use Rattle.egl_model.specs.State.{State}
use Rattle.egl_model.specs.Sweep.{roots_of}
use Rattle.egl_model.specs.Bindings.{bound_anew, named_at}
use Rattle.egl_model.specs.Objects.{change_context}
use Rattle.object_table.specs.Tables.{TableValue}
use Rattle.driver_facts.specs.Tables.{state_of}
use Rattle.driver_core.proofs.DeleteLaws.{anew_left, anew_there, cheap_anew}
use Rattle.driver_core.proofs.LevelLaws.{bound_there, held_again, left_after}
use Rattle.driver_facts.proofs.RootLaws.{first_held}
use Rattle.driver_core.proofs.machine.Driver.bind_anew.Goals as goal

pub make_named-requires-clause-known : goal.make_named-requires-clause-known
make_named-requires-clause-known g c = (roots_of c.self.inside.tables.displays.handles c.self.inside.tables.threads.records, rw c.reserve.ensures.holds c.self.invariant)

pub link_bound-requires : goal.link_bound-requires
link_bound-requires g c =
    let roots = roots_of c.self.inside.tables.displays.handles c.self.inside.tables.threads.records in
    let k = held_again c.len-new.result roots c.make_named.new.self.holds c.make_named.new.self.holds refl (rw c.len-new.ensures.value (c.in-Ok.ensures.held roots (rw c.reserve.ensures.holds c.self.invariant))) in
    let here = c.held_exist.ensures c.len-new.result (first_held c.len-new.result roots c.make_named.new.self.holds k) in
    let made = rw (c.new_object-first.ensures.value, c.names.ensures) at c.in-Ok.ensures.objects in
    bound_there c.make_named.new.self.objects c.bind_name.new.self.objects c.binding.result c.args.name c.args.context (Some c.len-new.result) (ap (λ (v : TableValue). v.objects) c.bind_name.ensures)
    (anew_there c.args.target c.reserve.new.self.objects c.make_named.new.self.objects c.group_number-group.result c.len-new.result (with_name_of (name_kind c.args.target) c.args.name (Some (length c.reserve.new.self.objects))) c.len-new.ensures.value made here)

pub release-requires : goal.release-requires
release-requires g c =
    let roots = roots_of c.self.inside.tables.displays.handles c.self.inside.tables.threads.records in
    let k = held_again c.len-new.result roots c.make_named.new.self.holds c.link_bound.new.self.holds (c.link_bound.ensures.holds ∙ ap (λ (v : TableValue). v.holds) c.bind_name.ensures) (rw c.len-new.ensures.value (c.in-Ok.ensures.held roots (rw c.reserve.ensures.holds c.self.invariant))) in
    record { held = first_held c.len-new.result roots c.link_bound.new.self.holds k }

pub returns-in-Ok-clause-state : goal.returns-in-Ok-clause-state
returns-in-Ok-clause-state g c =
    let roots = roots_of c.self.inside.tables.displays.handles c.self.inside.tables.threads.records in
    let k = held_again c.len-new.result roots c.make_named.new.self.holds c.link_bound.new.self.holds (c.link_bound.ensures.holds ∙ ap (λ (v : TableValue). v.holds) c.bind_name.ensures) (rw c.len-new.ensures.value (c.in-Ok.ensures.held roots (rw c.reserve.ensures.holds c.self.invariant))) in
    let made = rw (c.new_object-first.ensures.value, c.names.ensures) at c.in-Ok.ensures.objects in
    let bound = rw c.len-new.ensures.value at c.link_bound.ensures.objects in
    let named : c.bind_name.new.self.objects ≡ change_context (named_at (binding_of c.args.target) c.args.name) c.args.context c.make_named.new.self.objects = ap (λ (v : TableValue). v.objects) c.bind_name.ensures ∙ ap (λ which. change_context (named_at which c.args.name) c.args.context c.make_named.new.self.objects) c.binding.ensures in
    let is = anew_left c.args.target c.reserve.new.self.objects c.make_named.new.self.objects c.bind_name.new.self.objects c.link_bound.new.self.objects c.group_number-group.result c.args.context c.args.name made named bound in
    let o = left_after c.link_bound.new.self c.release.new.self (bound_anew c.args.target c.group_number-group.result c.args.context c.args.name c.reserve.new.self.objects) c.len-new.result c.link_bound.new.steps c.release.new.steps roots is k c.release.ensures c.left.ensures in
    rw (← c.self.view_is) (rw (o, c.reserve.ensures.objects, c.group_number-group.ensures) refl)

pub returns-in-Ok-clause-steps : goal.returns-in-Ok-clause-steps
returns-in-Ok-clause-steps g c =
    let s : State = state_of c.self.inside.tables.displays c.self.inside.tables.objects.objects c.self.inside.tables.threads.records c.self.inside.tables.windows c.self.inside.tables.video in
    let a : State = state_of c.self.inside.tables.displays c.release.new.self.objects c.self.inside.tables.threads.records c.self.inside.tables.windows c.self.inside.tables.video in
    rw (← c.self.view_is) (cheap_anew s a c.reserve.new.self.objects c.make_named.new.self.objects c.bind_name.new.self.objects c.link_bound.new.self.objects c.binding.result c.args.name c.args.context c.args.steps.now c.make_named.new.steps c.link_bound.new.steps c.release.new.steps refl c.reserve.ensures.objects c.in-Ok.ensures.steps (ap (λ (v : TableValue). v.objects) c.bind_name.ensures) c.link_bound.ensures.steps c.release.ensures.steps)
