use Rattle.texture_objects.proofs.UploadLaws.{reads}
use Rattle.texture_objects.proofs.laws.reads_pixels_at_their_places.Goals as goal

pub returns : goal.returns
returns c = reads
