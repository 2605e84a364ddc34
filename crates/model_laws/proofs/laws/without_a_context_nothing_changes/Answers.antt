use Rattle.model_laws.proofs.Steps.RefusalLaws.{without_context}
use Rattle.model_laws.proofs.laws.without_a_context_nothing_changes.Goals as goal

pub returns : goal.returns
returns c = without_context
