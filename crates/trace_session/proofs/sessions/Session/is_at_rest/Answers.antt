use Rattle.std.proofs.Common.{◌∙◌}
use Rattle.trace_session.proofs.KnownLaws.{rest_is}
use Rattle.trace_session.proofs.sessions.Session.is_at_rest.Goals as goal

pub returns : goal.returns
returns c journal w = c.rests.ensures ∙ rest_is c.args.self.now journal w c.args.driver.now.state c.args.thread c.requires.thread (λ l h. c.facts.ensures.uses _ l h)
