use Rattle.model_laws.proofs.Waits.FenceLaws.{flush_leaves, flush_signals, gone_signals, unsignalled_there}
use Rattle.model_laws.proofs.laws.a_fence_is_signalled_by_its_context.Goals as goal

pub returns-clause-ended : goal.returns-clause-ended
returns-clause-ended c = gone_signals

pub returns-clause-there : goal.returns-clause-there
returns-clause-there c = unsignalled_there

pub returns-clause-flush : goal.returns-clause-flush
returns-clause-flush c = flush_signals

pub returns-clause-others : goal.returns-clause-others
returns-clause-others c = flush_leaves
