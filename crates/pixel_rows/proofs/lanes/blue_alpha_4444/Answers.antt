use Rattle.pixel_rows.proofs.LaneWords.{blue_alpha_4444_is}
use Rattle.pixel_rows.proofs.lanes.blue_alpha_4444.Goals as goal

pub returns : goal.returns
returns c = blue_alpha_4444_is c.args.v 8 c.fits-v.0
