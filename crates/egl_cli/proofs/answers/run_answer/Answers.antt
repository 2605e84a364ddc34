use Rattle.std.proofs.Common.{refl}
use Rattle.trace_session.proofs.TurnLaws.{stand_first}
use Rattle.egl_cli.proofs.answers.run_answer.Goals as goal

pub played_answer-requires-clause-behind : goal.played_answer-requires-clause-behind
played_answer-requires-clause-behind c = stand_first c.args.trace.now _ _ _ refl c.in_ok-session.ensures.trace c.in_ok-driver.ensures.state c.in_ok-session.ensures.learnt
