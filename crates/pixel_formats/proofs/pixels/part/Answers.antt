use Rattle.std.proofs.Common.{arith}
use Rattle.pixel_formats.proofs.Sizes.{part-below}
use Rattle.pixel_formats.proofs.pixels.part.Goals as goal

pub returns-clause-small : goal.returns-clause-small
returns-clause-small c = omega (arith, part-below c.args.c c.args.at.bits c.args.at.low c.requires.within c.requires.place.bits c.requires.place.low)
