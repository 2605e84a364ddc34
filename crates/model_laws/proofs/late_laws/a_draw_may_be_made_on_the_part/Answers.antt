use Rattle.model_laws.proofs.Parts.LateDraws.{part_drawn}
use Rattle.model_laws.proofs.late_laws.a_draw_may_be_made_on_the_part.Goals as goal

pub returns : goal.returns
returns c = part_drawn
