use Rattle.pixel_formats.proofs.Packed.{unpack-pack}
use Rattle.pixel_formats.proofs.laws.packing_keeps.Goals as goal

pub returns : goal.returns
returns c = unpack-pack
