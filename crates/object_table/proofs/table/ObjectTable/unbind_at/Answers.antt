use Rattle.std.proofs.Common.{◌∙◌, refl, sym, ap, arith, length}
use Rattle.ref_store.specs.Counts.{as_list}
use Rattle.driver_objects.specs.Targets.{binding_of}
use Rattle.egl_model.specs.Bindings.{named_at}
use Rattle.egl_model.specs.Objects.{change_context}
use Rattle.std.proofs.Common.{◌≡◌}
use Rattle.object_table.specs.Tables.{TableValue}
use Rattle.object_table.proofs.DeleteLaws.{unbind_edge, unbind_left, unbind_same, unbind_slot, unbind_weighs}
use Rattle.object_table.proofs.LevelLaws.{when_ok}
use Rattle.object_table.proofs.table.ObjectTable.unbind_at.Goals as goal

pub link-requires-clause-slot : goal.link-requires-clause-slot
link-requires-clause-slot g c =
    let m : c.bind_name.new.self.objects ≡ change_context (named_at (binding_of c.args.target) 0) c.args.n c.args.self.now.objects = ap (λ (v : TableValue). v.objects) c.bind_name.ensures ∙ ap (λ b. change_context (named_at b 0) c.args.n c.args.self.now.objects) c.binding.ensures in
    rw c.slot.ensures.value (unbind_slot c.args.target c.args.self.now.objects c.bind_name.new.self.objects c.args.n c.args.object m (sym c.has_bound.ensures ∙ c.if-has_bound.true))

pub returns-then-has_bound-clause-objects : goal.returns-then-has_bound-clause-objects
returns-then-has_bound-clause-objects g c =
    let m : c.bind_name.new.self.objects ≡ change_context (named_at (binding_of c.args.target) 0) c.args.n c.args.self.now.objects = ap (λ (v : TableValue). v.objects) c.bind_name.ensures ∙ ap (λ b. change_context (named_at b 0) c.args.n c.args.self.now.objects) c.binding.ensures in
    unbind_left c.args.target c.args.self.now.objects c.bind_name.new.self.objects c.link.new.self.objects c.args.n c.args.object m (sym c.has_bound.ensures ∙ c.if-has_bound.true)
    (let l = when_ok c.link.result (c.link.ensures.cleared refl) c.link.ensures.objects in rw c.slot.ensures.value at l)

pub returns-then-has_bound-clause-steps : goal.returns-then-has_bound-clause-steps
returns-then-has_bound-clause-steps g c =
    let m : c.bind_name.new.self.objects ≡ change_context (named_at (binding_of c.args.target) 0) c.args.n c.args.self.now.objects = ap (λ (v : TableValue). v.objects) c.bind_name.ensures ∙ ap (λ b. change_context (named_at b 0) c.args.n c.args.self.now.objects) c.binding.ensures in
    let e = unbind_edge c.args.target c.args.self.now.objects c.bind_name.new.self.objects c.args.n c.args.object m (sym c.has_bound.ensures ∙ c.if-has_bound.true) in
    let w = unbind_weighs c.args.self.now.objects c.bind_name.new.self.objects (binding_of c.args.target) 0 c.args.n m in
    let l = when_ok c.link.result (c.link.ensures.cleared refl) c.link.ensures.steps in
    let s = rw c.slot.ensures.value at l in
    omega (arith, s, w, ap (λ o. length (as_list o)) e)

pub returns-else-has_bound-clause-objects : goal.returns-else-has_bound-clause-objects
returns-else-has_bound-clause-objects g c = unbind_same c.args.target c.args.self.now.objects c.args.n c.args.object (sym c.has_bound.ensures ∙ c.if-has_bound.false)
