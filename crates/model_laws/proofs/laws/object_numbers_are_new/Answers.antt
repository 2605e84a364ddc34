use Rattle.model_laws.proofs.Steps.StepKeeps.{keeps-step, objects-replay}
use Rattle.model_laws.proofs.laws.object_numbers_are_new.Goals as goal

pub returns-clause-step : goal.returns-clause-step
returns-clause-step c = λ s t call. (keeps-step s t call).frame.objects

pub returns-clause-history : goal.returns-clause-history
returns-clause-history c = objects-replay
