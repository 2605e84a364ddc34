use Rattle.model_laws.proofs.Parts.LateDraws.{draws_unseen}
use Rattle.model_laws.proofs.late_laws.a_draw_is_unseen_while_the_part_is_out.Goals as goal

pub returns : goal.returns
returns c = draws_unseen
