use Rattle.std.proofs.Common.{refl, sym, ap, ◌∙◌}
use Rattle.framebuffer_objects.specs.Framebuffers.{with_point}
use Rattle.object_table.specs.Tables.{TableValue}
use Rattle.object_table.proofs.FramebufferLaws.{attach_left, detach_left, framebuffer_same, point_fixed}
use Rattle.object_table.proofs.LevelLaws.{when_ok}
use Rattle.object_table.proofs.table.ObjectTable.attach.Goals as goal

pub returns-then-not-is_framebuffer-clause-objects : goal.returns-then-not-is_framebuffer-clause-objects
returns-then-not-is_framebuffer-clause-objects g c = framebuffer_same (with_point c.args.point c.args.attached) c.args.self.now.objects c.args.n (sym c.is_framebuffer.ensures ∙ c.if-not-is_framebuffer.true)

pub returns-in-Some-clause-objects : goal.returns-in-Some-clause-objects
returns-in-Some-clause-objects g c =
    let h = sym c.is_framebuffer.ensures ∙ c.if-not-is_framebuffer.false in
    let l = when_ok c.link.result (c.link.ensures.fixed (point_fixed _ c.slot_of.result h)) c.link.ensures.objects in
    rw c.in-Some.is (attach_left c.args.point c.in-Some.attached c.args.self.now.objects c.link.new.self.objects c.rename.new.self.objects c.args.n h (rw c.slot_of.ensures at l) (ap (λ (v : TableValue). v.objects) c.rename.ensures.value))

pub returns-in-None-clause-objects : goal.returns-in-None-clause-objects
returns-in-None-clause-objects g c =
    let h = sym c.is_framebuffer.ensures ∙ c.if-not-is_framebuffer.false in
    let l = when_ok c.link-in-None.result (c.link-in-None.ensures.cleared refl) c.link-in-None.ensures.objects in
    rw c.in-None.is (detach_left c.args.point c.args.self.now.objects c.link-in-None.new.self.objects c.args.n h (rw c.slot_of-in-None.ensures at l))
