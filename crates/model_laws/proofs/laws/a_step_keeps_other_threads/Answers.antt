use Rattle.model_laws.proofs.Steps.StepKeeps.{keeps-step}
use Rattle.model_laws.proofs.laws.a_step_keeps_other_threads.Goals as goal

pub returns-clause-others : goal.returns-clause-others
returns-clause-others c = λ s t u call ne. (keeps-step s u call).frame.others t ne

pub returns-clause-count : goal.returns-clause-count
returns-clause-count c = λ s t call. (keeps-step s t call).frame.count
