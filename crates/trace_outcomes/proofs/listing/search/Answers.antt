use Rattle.std.proofs.Common.{◌≡◌, ◌∙◌, length, arith}
use Rattle.trace_outcomes.proofs.SearchLaws.{begins, begins_listed, more_listed, one_fewer, some_left, ends_listed, ends_count}
use Rattle.trace_outcomes.proofs.listing.search.Goals as goal

pub each-init : goal.each-init
each-init c =
    let t = c.args.trace.now in
    let all = begins t _ _ _ c.new-pending.ensures.items c.new-first.ensures c.in_ok-push_schedule.ensures in
    record {
      listed = begins_listed t c.new-found.result c.push_schedule.new.pending.items c.new-found.ensures all;
      count = rw all (omega arith);
      few = omega arith;
    }

pub each-preserved : goal.each-preserved
each-preserved c =
    let t = c.args.trace.now in
    let v = c.each.invariant in
    let is = rw c.in-Some.is at c.pop.ensures.items in
    let first = c.in_ok-outcome.ensures in
    record {
      listed = rw c.in_ok-add.ensures (more_listed t c.each.found c.in_ok-outcome.outcome c.pop.new.self.items c.in-Some.schedule c.each.pending.items c.play_first.new.pending.items is first) ∙ v.listed;
      count = omega (arith, v.count, one_fewer t c.in_ok-outcome.outcome c.pop.new.self.items c.in-Some.schedule c.each.pending.items c.play_first.new.pending.items is first);
      few = omega (arith, c.if-histories-ge-MOST_HISTORIES.false);
    }

pub returns-then-histories-ge-MOST_HISTORIES : goal.returns-then-histories-ge-MOST_HISTORIES
returns-then-histories-ge-MOST_HISTORIES c =
    let is = rw c.in-Some.is at c.pop.ensures.items in
    omega (arith, c.each.invariant.count, c.if-histories-ge-MOST_HISTORIES.true, some_left c.args.trace.now c.pop.new.self.items c.in-Some.schedule c.each.pending.items is)

pub returns : goal.returns
returns c =
    let t = c.args.trace.now in
    let none = rw c.in_default.is at c.pop.ensures.cases in
    let z : length c.each.pending.items ≡ 0 = omega (arith, none.0, c.each.pending.ok.0) in
    record {
      outcomes = c.into_outcomes.ensures ∙ ends_listed t c.each.found c.each.pending.items z c.each.invariant.listed;
      histories = ends_count t c.each.histories _ c.each.pending.items z c.each.invariant.count;
      few = omega (arith, c.each.invariant.few, ends_count t c.each.histories _ c.each.pending.items z c.each.invariant.count);
    }
