use Rattle.model_laws.proofs.Steps.RefusalLaws.{own_state}
use Rattle.model_laws.proofs.laws.own_calls_change_nothing.Goals as goal

pub returns : goal.returns
returns c = own_state
