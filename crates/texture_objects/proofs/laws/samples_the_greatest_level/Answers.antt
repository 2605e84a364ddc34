use Rattle.texture_objects.proofs.LevelLaws.{samples-greatest}
use Rattle.texture_objects.proofs.laws.samples_the_greatest_level.Goals as goal

pub returns : goal.returns
returns c = samples-greatest
