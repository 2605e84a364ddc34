use Rattle.texture_objects.proofs.LevelLaws.{complete-by-levels}
use Rattle.texture_objects.proofs.laws.is_complete_by_its_levels.Goals as goal

pub returns : goal.returns
returns c = complete-by-levels
