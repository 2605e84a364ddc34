use Rattle.std.proofs.Common.{◌<◌, ◌∙◌, length, sym, arith}
use Rattle.play_threads.proofs.PickLaws.{is_there}
use Rattle.play_threads.proofs.pickers.LinePicker.learn.Goals as goal

pub each-preserved : goal.each-preserved
each-preserved c = record {
  thread = c.learn_one.ensures.same.0 ∙ c.each.invariant.thread;
  trace = c.learn_one.ensures.same.1 ∙ c.each.invariant.trace;
  told = (c.learn_one.ensures.told.0 ∙ c.each.invariant.told.0, c.learn_one.ensures.told.1 ∙ c.each.invariant.told.1);
  learnt = c.in_ok-learn_one-in-Some.ensures.learnt _ c.args.journal.now.entries c.each.invariant.learnt (sym c.in-Some.ensures);
}

pub unreachable-requires : goal.unreachable-requires
unreachable-requires c =
    let below : c.each.self.learnt < length c.args.journal.now.entries = omega (arith, c.each-test.true, c.len-count.ensures) in
    is_there c.args.journal.now.entries c.each.self.learnt below c.in-None.ensures
