use Rattle.trace_session.proofs.TraceFacts.{facts_of}
use Rattle.trace_session.proofs.chains.Chains.new.Goals as goal

pub chains_of-requires : goal.chains_of-requires
chains_of-requires c = rw (c.lines.ensures.lines, c.threads.ensures) (facts_of _ c.lines.ensures.trace).threads
