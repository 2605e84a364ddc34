use Rattle.std.proofs.Common.{◌<◌, arith, length}
use Rattle.trace_outcomes.proofs.OrderLaws.{rising_on}
use Rattle.trace_outcomes.proofs.ordering.rising.Goals as goal

pub each-preserved : goal.each-preserved
each-preserved c =
    let v = c.each.invariant in
    let parts = c.in_ok-differing.field-0 in
    let lt : c.each.place < length c.args.first.now.answers = omega (arith, c.each-test.true, v.end) in
    record {
      rising = rw c.in_ok-append.ensures (rising_on c.args.first.now (length c.args.first.now.answers) c.each.place c.each.ordered.items c.each.left.items parts.differing.items parts.agreeing.items _ lt c.in_ok-differing.ensures.differing c.in_ok-differing.ensures.agreeing v.rising);
      end = v.end;
      within = omega (arith, c.each-test.true);
    }
