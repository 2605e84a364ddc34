use Rattle.model_laws.proofs.Steps.Framing.{local_as_step, part-local}
use Rattle.model_laws.proofs.part_laws.a_local_call_is_told_by_the_part.Goals as goal

pub returns-clause-step : goal.returns-clause-step
returns-clause-step c = local_as_step

pub returns-clause-part : goal.returns-clause-part
returns-clause-part c = part-local
