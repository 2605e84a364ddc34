use Rattle.std.proofs.Common.{◌∙◌, ◌∷◌, ap, sym}
use Rattle.trace_reader.specs.Traces.{TraceValue}
use Rattle.trace_outcomes.specs.Histories.{after}
use Rattle.trace_outcomes.specs.Schedules.{left}
use Rattle.trace_outcomes.proofs.TurnLaws.{plays_after}
use Rattle.trace_outcomes.proofs.HistoryLaws.{fewer}
use Rattle.trace_outcomes.proofs.SearchLaws.{follow_more, one_on, all_over, after_found}
use Rattle.trace_outcomes.proofs.histories.descend.Goals as goal

pub each-preserved : goal.each-preserved
each-preserved c =
    let t = c.each.session.trace in
    let journal = c.each.journal.entries in
    let v = c.each.invariant in
    let found = c.next_thread.ensures.learnt journal v.behind.knows in
    let others = c.in_ok-push_others.ensures journal v.behind v.at in
    let next = c.in_ok-go_on.ensures.journal in
    record {
      trace = c.go_on.ensures.trace ∙ v.trace;
      made = rw (c.go_on.ensures.trace, c.go_on.ensures.made) v.made;
      behind = c.in_ok-go_on.ensures.behind;
      is_trace = rw c.go_on.ensures.trace v.is_trace;
      plays = rw (c.go_on.ensures.trace, next) (plays_after t v.is_trace journal c.in-Some.thread v.plays);
      at = rw (c.go_on.ensures.trace, c.in_ok-push.ensures.ok) (next ∙ sym (follow_more t _ c.each.schedule c.in-Some.thread ∙ ap (λ js. after t js c.in-Some.thread) (sym v.at)));
      histories = rw c.go_on.ensures.trace (one_on t v.is_trace journal c.each.driver.state v.behind.state v.plays _ found c.in-Some.thread c.in-Some.is _ next c.each.pending.items c.push_others.new.pending.items others) ∙ v.histories;
    }

pub each-smaller : goal.each-smaller
each-smaller c =
    let t = c.each.session.trace in
    let journal = c.each.journal.entries in
    let v = c.each.invariant in
    let found = c.next_thread.ensures.learnt journal v.behind.knows in
    rw (c.go_on.ensures.trace, c.in_ok-go_on.ensures.journal) (fewer t v.is_trace journal c.in-Some.thread v.plays (after_found t v.is_trace journal c.each.driver.state v.behind.state v.plays _ found c.in-Some.thread c.in-Some.is))

pub returns-clause-histories : goal.returns-clause-histories
returns-clause-histories c =
    let t = c.each.session.trace in
    let journal = c.each.journal.entries in
    let v = c.each.invariant in
    let old = c.each.pending.items in
    ap (λ (x : TraceValue). journal ∷ left x old) (sym v.trace)
    ∙ all_over t v.is_trace journal c.each.driver.state v.behind.state v.plays _ (c.next_thread.ensures.learnt journal v.behind.knows) c.in_default.is old
    ∙ v.histories
