use Rattle.trace_session.proofs.TurnLaws.{stand_first}
use Rattle.std.proofs.Common.{refl}
use Rattle.trace_check.proofs.verdicts.check.Goals as goal

pub judge-requires-clause-behind : goal.judge-requires-clause-behind
judge-requires-clause-behind c = stand_first c.args.trace.now _ _ _ refl c.in_ok-session.ensures.trace c.in_ok-driver.ensures.state c.in_ok-session.ensures.learnt
