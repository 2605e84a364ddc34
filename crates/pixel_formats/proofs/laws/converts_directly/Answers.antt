use Rattle.pixel_formats.proofs.Sizes.{through-bytes}
use Rattle.pixel_formats.proofs.laws.converts_directly.Goals as goal

pub returns : goal.returns
returns c = through-bytes
