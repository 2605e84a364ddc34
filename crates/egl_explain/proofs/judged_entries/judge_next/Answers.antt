use Rattle.std.proofs.Common.{sym}
use Rattle.trace_check.proofs.WalkLaws.{line_due, none_due, turn_due}
use Rattle.egl_explain.proofs.JudgingLaws.{rows_are_its}
use Rattle.egl_explain.proofs.judged_entries.judge_next.Goals as goal

pub returns-in_default-clause-due : goal.returns-in_default-clause-due
returns-in_default-clause-due c journal b = sym (none_due c.args.session.now.trace journal c.args.thread c.args.driver.now.state b.state (rw c.in_default.is at (c.due.ensures.learnt journal b.knows)))

pub returns-clause-due : goal.returns-clause-due
returns-clause-due c journal b =
    let due = rw c.in-Some.is at (c.due.ensures.learnt journal b.knows) in
    let turn = c.in_ok-entry.ensures.turn journal b.knows (line_due c.args.session.now.trace journal c.args.thread c.args.driver.now.state c.in-Some.mark due) in
    sym (turn_due c.args.session.now.trace journal c.args.thread c.args.driver.now.state _ _ c.in-Some.mark b.state due turn)

pub returns-clause-rows : goal.returns-clause-rows
returns-clause-rows c journal b =
    let t = c.args.session.now.trace in
    let due = rw c.in-Some.is at (c.due.ensures.learnt journal b.knows) in
    let turn = c.in_ok-entry.ensures.turn journal b.knows (line_due t journal c.args.thread c.args.driver.now.state c.in-Some.mark due) in
    let call = c.in_ok-call.ensures.value journal turn.line b.knows turn.next in
    rows_are_its t journal c.args.thread c.args.driver.now.state _ c.in_ok-entry.entry c.in_ok-call.call _ turn call c.refusals-rows.ensures
