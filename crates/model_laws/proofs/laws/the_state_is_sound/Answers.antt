use Rattle.egl_model.specs.State.{opening}
use Rattle.model_laws.proofs.Steps.StepKeeps.{sound-opening, sound-replay, sound-step}
use Rattle.model_laws.proofs.laws.the_state_is_sound.Goals as goal

pub returns-clause-opening : goal.returns-clause-opening
returns-clause-opening c = sound-opening

pub returns-clause-step : goal.returns-clause-step
returns-clause-step c = sound-step

pub returns-clause-history : goal.returns-clause-history
returns-clause-history c = λ windows ok video entries. sound-replay (opening windows video) entries (sound-opening windows ok video)
