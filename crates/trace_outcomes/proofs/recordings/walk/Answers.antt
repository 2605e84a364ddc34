use Rattle.std.proofs.Common.{◌≡◌, ◌∙◌, true, ap, sym}
use Rattle.std.specs.Prelude.{is_some}
use Rattle.trace_check.specs.Verdicts.{entry_due}
use Rattle.trace_outcomes.specs.Recordings.{walked}
use Rattle.trace_outcomes.proofs.RecordedLaws.{walked_on}
use Rattle.trace_outcomes.proofs.recordings.walk.Goals as goal

pub each-preserved : goal.each-preserved
each-preserved c =
    let v = c.each.invariant in
    let t = c.each.session.trace in
    let journal = c.each.journal.entries in
    let e = c.in-Some.entry.now in
    let more = c.in-Some.more.now in
    let able : is_some (entry_due t journal c.in-Some-thread.thread) ≡ true = sym c.in_ok-could.ensures.could ∙ c.if-not-could.false in
    let on = walked_on t journal e more c.in-Some-thread.thread c.in-Some-thread.is able in
    record {
      trace = c.go_on.ensures.trace ∙ v.trace;
      made = rw (c.go_on.ensures.trace, c.go_on.ensures.made) v.made;
      behind = c.in_ok-could.ensures.behind;
      walked = rw (c.go_on.ensures.trace, c.in_ok-could.ensures.journal) (sym on ∙ ap (walked t journal) (sym c.in-Some.ensures.first) ∙ v.walked);
    }
