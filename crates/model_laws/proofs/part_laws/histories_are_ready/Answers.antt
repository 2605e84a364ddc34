use Rattle.std.proofs.Common.{arith}
use Rattle.std.proofs.lemmas.List.{length-replicate}
use Rattle.egl_model.specs.State.{capacity, initial}
use Rattle.model_laws.proofs.Steps.Framing.{ready-step}
use Rattle.model_laws.proofs.Steps.StepKeeps.{sound-opening}
use Rattle.model_laws.proofs.part_laws.histories_are_ready.Goals as goal

pub returns-clause-opening : goal.returns-clause-opening
returns-clause-opening c = λ windows ok video t l. record { sound = sound-opening windows ok video; thread = let e = length-replicate capacity initial in omega (arith, e, l) }

pub returns-clause-step : goal.returns-clause-step
returns-clause-step c = ready-step
