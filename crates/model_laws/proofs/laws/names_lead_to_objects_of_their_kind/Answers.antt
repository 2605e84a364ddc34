use Rattle.model_laws.proofs.Steps.StepKeeps.{sound-history, sound-opening, sound-step}
use Rattle.model_laws.proofs.laws.names_lead_to_objects_of_their_kind.Goals as goal

pub returns-clause-opening : goal.returns-clause-opening
returns-clause-opening c = λ windows ok video. (sound-opening windows ok video).whole.kinds

pub returns-clause-step : goal.returns-clause-step
returns-clause-step c = λ s t call h. (sound-step s t call h).whole.kinds

pub returns-clause-history : goal.returns-clause-history
returns-clause-history c = λ windows ok video entries. (sound-history windows ok video entries).whole.kinds
