use Rattle.pixel_formats.proofs.Packed.{quantize-quantize}
use Rattle.pixel_formats.proofs.laws.rounds_once.Goals as goal

pub returns : goal.returns
returns c = quantize-quantize
