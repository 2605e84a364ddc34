use Rattle.pixel_formats.proofs.Packed.{quantize-clear_pixel}
use Rattle.pixel_formats.proofs.laws.keeps_clear_colour.Goals as goal

pub returns : goal.returns
returns c = quantize-clear_pixel
