use Rattle.model_laws.proofs.Handles.NewHandleLaws.{answers_number, gets_handle, undone_stays}
use Rattle.model_laws.proofs.Steps.StepKeeps.{next-step}
use Rattle.model_laws.proofs.laws.a_new_handle_names_its_object.Goals as goal

pub returns-clause-handle : goal.returns-clause-handle
returns-clause-handle c = gets_handle

pub returns-clause-reply : goal.returns-clause-reply
returns-clause-reply c = answers_number

pub returns-clause-others : goal.returns-clause-others
returns-clause-others c = next-step

pub returns-clause-undone : goal.returns-clause-undone
returns-clause-undone c = undone_stays
