use Rattle.std.proofs.Common.{sym}
use Rattle.trace_session.proofs.TurnLaws.{none_next, has_number, next_is, state_on, stand_on}
use Rattle.trace_session.proofs.turns.next_turn.Goals as goal

pub returns-in_default-clause-entry : goal.returns-in_default-clause-entry
returns-in_default-clause-entry c journal b =
    none_next c.args.session.now.trace journal c.args.driver.now.state b.state c.next_thread.result (c.next_thread.ensures.learnt journal b.knows) c.in_default.is

pub returns-in_default-next-clause-entry : goal.returns-in_default-next-clause-entry
returns-in_default-next-clause-entry c journal b =
    absurd (has_number c.args.session.now.trace journal c.args.driver.now.state b.state _ c.in-Some.thread (c.next_thread.ensures.learnt journal b.knows) c.in-Some.is (rw c.in_default-next.is at (c.next.ensures.learnt journal b.knows)))

pub returns-clause-entry : goal.returns-clause-entry
returns-clause-entry c journal b =
    let turn = c.in_ok-play_turn.ensures.turn journal b.knows (sym (rw c.in-Some-next.is at (c.next.ensures.learnt journal b.knows))) in
    next_is c.args.session.now.trace journal c.args.driver.now.state b.state c.in-Some.thread _ _ turn _ (c.next_thread.ensures.learnt journal b.knows) c.in-Some.is

pub returns-clause-behind : goal.returns-clause-behind
returns-clause-behind c journal b =
    let turn = c.in_ok-play_turn.ensures.turn journal b.knows (sym (rw c.in-Some-next.is at (c.next.ensures.learnt journal b.knows))) in
    let t = c.args.session.now.trace in
    stand_on t _ _ _ c.play_turn.ensures.trace (c.in_ok-play_turn.ensures.knows journal b.knows) (state_on t journal c.args.driver.now.state b.state c.in-Some.thread _ _ turn)
