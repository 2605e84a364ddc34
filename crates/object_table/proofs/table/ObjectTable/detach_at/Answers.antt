use Rattle.std.proofs.Common.{refl, sym, ap, ◌∙◌, arith, length}
use Rattle.ref_store.specs.Counts.{as_list}
use Rattle.object_table.proofs.FramebufferLaws.{point_left, point_same, point_there, there_edge, there_is}
use Rattle.object_table.proofs.LevelLaws.{when_ok}
use Rattle.object_table.proofs.table.ObjectTable.detach_at.Goals as goal

pub link-requires-clause-slot : goal.link-requires-clause-slot
link-requires-clause-slot g c =
    let h = sym c.has_attached.ensures ∙ c.if-has_attached.true in
    rw c.slot_of.ensures (point_there c.args.point _ (there_is c.args.point c.args.object _ h))

pub returns-then-has_attached-clause-objects : goal.returns-then-has_attached-clause-objects
returns-then-has_attached-clause-objects g c =
    let h = sym c.has_attached.ensures ∙ c.if-has_attached.true in
    let l = when_ok c.link.result (c.link.ensures.cleared refl) c.link.ensures.objects in
    point_left c.args.point c.args.self.now.objects c.link.new.self.objects c.args.n c.args.object h (rw c.slot_of.ensures at l)

pub returns-then-has_attached-clause-steps : goal.returns-then-has_attached-clause-steps
returns-then-has_attached-clause-steps g c =
    let h = sym c.has_attached.ensures ∙ c.if-has_attached.true in
    let e = there_edge c.args.point c.args.object _ h in
    let l = when_ok c.link.result (c.link.ensures.cleared refl) c.link.ensures.steps in
    let s = rw c.slot_of.ensures at l in
    omega (arith, s, ap (λ o. length (as_list o)) e)

pub returns-else-has_attached-clause-objects : goal.returns-else-has_attached-clause-objects
returns-else-has_attached-clause-objects g c = point_same c.args.point c.args.self.now.objects c.args.n c.args.object (sym c.has_attached.ensures ∙ c.if-has_attached.false)
