use Rattle.texture_objects.proofs.UploadLaws.{part-zeros}
use Rattle.texture_objects.proofs.laws.null_gives_a_part_zeros.Goals as goal

pub returns : goal.returns
returns c = part-zeros
