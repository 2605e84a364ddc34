use Rattle.model_laws.proofs.Steps.Framing.{has_frame}
use Rattle.model_laws.proofs.part_laws.a_step_keeps_other_parts.Goals as goal

pub returns : goal.returns
returns c = has_frame.other
