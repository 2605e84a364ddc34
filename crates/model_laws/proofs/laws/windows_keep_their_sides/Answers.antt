use Rattle.egl_model.specs.State.{opening}
use Rattle.model_laws.proofs.Steps.StepKeeps.{keeps-step, windows-replay}
use Rattle.model_laws.proofs.laws.windows_keep_their_sides.Goals as goal

pub returns-clause-step : goal.returns-clause-step
returns-clause-step c = λ s t call. (keeps-step s t call).frame.windows

pub returns-clause-history : goal.returns-clause-history
returns-clause-history c = λ windows video entries. windows-replay (opening windows video) entries
