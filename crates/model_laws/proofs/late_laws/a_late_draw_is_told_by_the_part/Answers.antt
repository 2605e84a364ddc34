use Rattle.model_laws.proofs.Parts.LateDraws.{late_as_step}
use Rattle.model_laws.proofs.late_laws.a_late_draw_is_told_by_the_part.Goals as goal

pub returns : goal.returns
returns c = late_as_step
