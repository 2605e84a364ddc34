use Rattle.model_laws.proofs.Handles.DestroyLaws.{handle_removed, others_stay}
use Rattle.model_laws.proofs.Steps.StepKeeps.{kept-step}
use Rattle.model_laws.proofs.laws.handles_stay_valid.Goals as goal

pub returns-clause-other_calls : goal.returns-clause-other_calls
returns-clause-other_calls c = kept-step

pub returns-clause-terminated : goal.returns-clause-terminated
returns-clause-terminated c = others_stay

pub returns-clause-destroyed : goal.returns-clause-destroyed
returns-clause-destroyed c = handle_removed
