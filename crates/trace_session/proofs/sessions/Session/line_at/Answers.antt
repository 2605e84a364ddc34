use Rattle.trace_session.proofs.TraceFacts.{uses_of_found}
use Rattle.trace_session.proofs.sessions.Session.line_at.Goals as goal

pub returns-clause-uses : goal.returns-clause-uses
returns-clause-uses c = rw (← c.self.view_is) (uses_of_found _ c.line.ensures.trace _ _ c.line.ensures.line)
