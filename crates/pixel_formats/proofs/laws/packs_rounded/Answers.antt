use Rattle.pixel_formats.proofs.Packed.{pack-quantize}
use Rattle.pixel_formats.proofs.laws.packs_rounded.Goals as goal

pub returns : goal.returns
returns c = pack-quantize
