use Rattle.scene_reader.proofs.PowerLaws.{least_next, least_side}
use Rattle.scene_reader.proofs.laws.a_smooth_part_has_the_least_texture.Goals as goal

pub returns-clause-least : goal.returns-clause-least
returns-clause-least c = least_next

pub returns-clause-side : goal.returns-clause-side
returns-clause-side c = least_side
