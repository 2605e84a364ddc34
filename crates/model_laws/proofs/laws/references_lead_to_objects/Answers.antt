use Rattle.model_laws.proofs.References.LinkLaws.{chains_are_short}
use Rattle.model_laws.proofs.Steps.StepKeeps.{sound-opening, sound-step}
use Rattle.model_laws.proofs.laws.references_lead_to_objects.Goals as goal

pub returns-clause-opening : goal.returns-clause-opening
returns-clause-opening c = λ windows ok video. (sound-opening windows ok video).linked

pub returns-clause-step : goal.returns-clause-step
returns-clause-step c = λ s t call h. (sound-step s t call h).linked

pub returns-clause-chains : goal.returns-clause-chains
returns-clause-chains c = λ s n l h. chains_are_short s l h.0 n h.1
