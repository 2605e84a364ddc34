use Rattle.texture_objects.proofs.LevelLaws.{floor-of-log}
use Rattle.texture_objects.proofs.laws.is_floor_of_log.Goals as goal

pub returns : goal.returns
returns c = floor-of-log
