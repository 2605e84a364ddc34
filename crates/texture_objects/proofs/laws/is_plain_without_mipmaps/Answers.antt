use Rattle.texture_objects.proofs.LevelLaws.{plain}
use Rattle.texture_objects.proofs.laws.is_plain_without_mipmaps.Goals as goal

pub returns : goal.returns
returns c = plain
