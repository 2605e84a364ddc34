use Rattle.texture_objects.proofs.UploadLaws.{zeros}
use Rattle.texture_objects.proofs.laws.null_gives_zeros.Goals as goal

pub returns : goal.returns
returns c = zeros
