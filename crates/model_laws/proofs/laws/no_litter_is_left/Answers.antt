use Rattle.egl_model.specs.State.{opening}
use Rattle.model_laws.proofs.References.LitterLaws.{no_litter-opening, no_litter-replay, no_litter-step, no_litter-sweep}
use Rattle.model_laws.proofs.laws.no_litter_is_left.Goals as goal

pub returns-clause-sweep : goal.returns-clause-sweep
returns-clause-sweep c = no_litter-sweep

pub returns-clause-opening : goal.returns-clause-opening
returns-clause-opening c = no_litter-opening

pub returns-clause-step : goal.returns-clause-step
returns-clause-step c = no_litter-step

pub returns-clause-history : goal.returns-clause-history
returns-clause-history c = λ windows ok video entries. no_litter-replay (opening windows video) entries (no_litter-opening windows ok video)
