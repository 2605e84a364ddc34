use Rattle.std.proofs.Common.{ap}
use Rattle.driver_core.specs.Machine.{Machine}
use Rattle.trace_session.proofs.TurnLaws.{turn_made}
use Rattle.trace_session.proofs.turns.play_turn.Goals as goal

pub returns-clause-turn : goal.returns-clause-turn
returns-clause-turn c journal w m =
    let t = c.args.session.now.trace in
    turn_made t journal c.args.thread c.args.mark c.args.driver.now.state c.play.new.self.state c.in_ok-call.call c.in_ok-reply.reply m (λ l n. c.in_ok-call.ensures.value journal l w n) c.in_ok-reply.ensures.reply (ap (λ (d : Machine). d.state) c.in_ok-reply.ensures.state)

pub returns-clause-knows : goal.returns-clause-knows
returns-clause-knows c journal w = c.in_ok-learn.ensures.learnt journal w
