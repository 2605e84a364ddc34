use Rattle.model_laws.proofs.Steps.StepKeeps.{handles-replay, keeps-step}
use Rattle.model_laws.proofs.laws.handle_numbers_are_new.Goals as goal

pub returns-clause-step : goal.returns-clause-step
returns-clause-step c = λ s t call. (keeps-step s t call).frame.handles

pub returns-clause-history : goal.returns-clause-history
returns-clause-history c = handles-replay
