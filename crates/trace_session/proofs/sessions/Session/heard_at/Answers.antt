use Rattle.trace_session.proofs.HeardLaws.{alike_ok}
use Rattle.trace_session.specs.Answers.{call_at}
use Rattle.trace_session.proofs.sessions.Session.heard_at.Goals as goal

pub returns-in-Some : goal.returns-in-Some
returns-in-Some c = λ l g. alike_ok c.call_at.result (call_at c.args.self.now c.args.thread l) (c.call_at.ensures.value l g)
