use Rattle.std.proofs.Common.{sym}
use Rattle.trace_session.proofs.TurnLaws.{stand_on, state_on}
use Rattle.trace_check.proofs.WalkLaws.{line_due, none_due, turn_due}
use Rattle.trace_check.proofs.walking.play_due.Goals as goal

pub returns-in_default-clause-due : goal.returns-in_default-clause-due
returns-in_default-clause-due c journal b = sym (none_due c.args.session.now.trace journal c.args.thread c.args.driver.now.state b.state (rw c.in_default.is at (c.due.ensures.learnt journal b.knows)))

pub returns-clause-due : goal.returns-clause-due
returns-clause-due c journal b =
    let due = rw c.in-Some.is at (c.due.ensures.learnt journal b.knows) in
    let turn = c.in_ok-play_turn.ensures.turn journal b.knows (line_due c.args.session.now.trace journal c.args.thread c.args.driver.now.state c.in-Some.mark due) in
    sym (turn_due c.args.session.now.trace journal c.args.thread c.args.driver.now.state _ _ c.in-Some.mark b.state due turn)

pub returns-clause-behind : goal.returns-clause-behind
returns-clause-behind c journal b =
    let t = c.args.session.now.trace in
    let due = rw c.in-Some.is at (c.due.ensures.learnt journal b.knows) in
    let turn = c.in_ok-play_turn.ensures.turn journal b.knows (line_due t journal c.args.thread c.args.driver.now.state c.in-Some.mark due) in
    stand_on t _ _ _ c.play_turn.ensures.trace (c.in_ok-play_turn.ensures.knows journal b.knows) (state_on t journal c.args.driver.now.state b.state c.args.thread _ _ turn)
