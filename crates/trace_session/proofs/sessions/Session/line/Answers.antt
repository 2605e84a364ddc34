use Rattle.std.proofs.Common.{◌∙◌}
use Rattle.trace_session.proofs.KnownLaws.{line_is}
use Rattle.trace_session.proofs.sessions.Session.line.Goals as goal

pub returns-clause-learnt : goal.returns-clause-learnt
returns-clause-learnt c journal w = c.line_at.ensures.line ∙ line_is c.args.self.now journal w c.args.thread c.requires
