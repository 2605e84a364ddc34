use Rattle.pixel_formats.proofs.Packed.{pack-unpack}
use Rattle.pixel_formats.proofs.laws.reading_keeps.Goals as goal

pub returns : goal.returns
returns c = pack-unpack
