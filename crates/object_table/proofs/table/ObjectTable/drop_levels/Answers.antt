use Rattle.std.proofs.Common.{◌≡◌, refl, ◌∙◌, subst, arith}
use Rattle.egl_model.specs.Objects.{change_texture}
use Rattle.object_table.specs.Links.{IsLeft}
use Rattle.object_table.specs.Sources.{emptied}
use Rattle.object_table.proofs.ImageLaws.{more_emptied, none_emptied}
use Rattle.object_table.proofs.table.ObjectTable.drop_levels.Goals as goal

pub each-init : goal.each-init
each-init g c = record { few = omega arith; left = none_emptied c.args.self.now.objects c.args.n; holds = refl; steps = omega arith }

pub each-preserved : goal.each-preserved
each-preserved g c = let i = c.each.invariant in record {
  few = (let l = c.each-test.true in omega (arith, l));
  left = more_emptied c.args.self.now.objects c.each.self.objects c.drop_level.new.self.objects c.args.n c.each.k i.left c.drop_level.ensures.objects;
  holds = c.drop_level.ensures.holds ∙ i.holds;
  steps = omega (arith, c.drop_level.ensures.steps, i.steps);
}

pub returns-clause-objects : goal.returns-clause-objects
returns-clause-objects g c =
    let i = c.each.invariant in
    let e : c.each.k ≡ 10 = (let l = c.each-test.false in omega (arith, l, i.few)) in
    subst (λ k. IsLeft (change_texture (emptied k) c.args.n c.args.self.now.objects) c.each.self.objects) e i.left
