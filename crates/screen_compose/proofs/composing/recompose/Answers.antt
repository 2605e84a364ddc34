use Rattle.std.proofs.Common.{◌≡◌, ◌<◌, ◌∙◌, length, refl, ap, arith, subst}
use Rattle.screen_compose.specs.Changes.{changed_rows, is_changed}
use Rattle.screen_compose.proofs.Changing.{Recomposed, all_rows, count_more, length-composed, none_yet, one_at_most, one_row, same_length}
use Rattle.screen_compose.proofs.composing.recompose.Goals as goal

pub each-init : goal.each-init
each-init g c = record { long = refl; rows = λ w h e. none_yet _ _ _; count = refl; steps = omega arith; few = omega arith }

pub each-preserved : goal.each-preserved
each-preserved g c =
    let inside : c.each.y < length c.args.rows.now.items = omega (arith, c.each-test.true, c.len-y-end.ensures) in
    record {
      long = same_length _ _ _ _ _ c.recompose_row-count.ensures.rows ∙ c.each.invariant.long;
      rows = λ w h e. one_row c.args.shown.now.layers c.args.fronts.now.layers w h c.each.y _ _ _ c.requires.same inside e (c.each.invariant.rows w h e) c.recompose_row-count.ensures.rows;
      count = count_more (is_changed c.args.shown.now.layers c.args.fronts.now.layers) c.each.y _ _ c.each.invariant.count c.recompose_row-count.ensures.count;
      steps = omega (arith, c.recompose_row-count.ensures.steps, c.each.invariant.steps);
      few = omega (arith, c.each.invariant.few, one_at_most _ _ c.recompose_row-count.ensures.count);
    }

pub returns-clause-rows : goal.returns-clause-rows
returns-clause-rows g c = λ w h e.
    let long : length c.args.rows.now.items ≡ h = ap length e ∙ length-composed c.args.shown.now.layers w h in
    let last : c.each.y ≡ h = omega (arith, c.each-test.false, c.each.auto.y-end, c.len-y-end.ensures, long) in
    all_rows c.args.fronts.now.layers w h c.args.rows.now.items c.each.rows.items long
    (subst (Recomposed c.args.fronts.now.layers w c.args.rows.now.items c.each.rows.items) last (c.each.invariant.rows w h e))

pub returns-clause-count : goal.returns-clause-count
returns-clause-count g c =
    let last : c.each.y ≡ length c.args.rows.now.items = omega (arith, c.each-test.false, c.each.auto.y-end, c.len-y-end.ensures) in
    c.each.invariant.count ∙ ap (changed_rows c.args.shown.now.layers c.args.fronts.now.layers) last

pub returns-clause-steps : goal.returns-clause-steps
returns-clause-steps g c = c.each.invariant.steps
