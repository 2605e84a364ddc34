use Rattle.std.proofs.Common.{◌≡◌, ◌++◌, ◌∙◌, ℕ, ap, arith}
use Rattle.trace_outcomes.specs.Schedules.{histories_by_all, left}
use Rattle.trace_outcomes.proofs.SearchLaws.{by_none, by_more}
use Rattle.trace_outcomes.proofs.histories.push_others.Goals as goal

pub each-init : goal.each-init
each-init c = record {
  first = omega (arith, c.requires.first, c.threads-at.ensures);
  within = omega (arith, c.threads-at.ensures);
  others = λ journal b at. by_none c.args.session.now.trace journal _ _ c.threads-at.ensures;
}

pub each-preserved : goal.each-preserved
each-preserved c = record {
  first = omega (arith, c.each-test.true);
  within = omega (arith, c.each.invariant.within);
  others = λ journal b at.
      by_more c.args.session.now.trace journal _ c.each.at _ _ _ (omega (arith, c.each.invariant.within, c.each-test.true)) (omega (arith, c.each-test.true)) (c.each.invariant.others journal b at) (c.in_ok-push_other.ensures journal b at);
}

pub returns : goal.returns
returns c journal b at =
    let t = c.args.session.now.trace in
    let same : c.each.at ≡ c.args.first = omega (arith, c.each-test.false, c.each.invariant.first) in
    c.each.invariant.others journal b at ∙ ap (λ (n : ℕ). histories_by_all t journal n ++ left t c.args.pending.now.items) same
