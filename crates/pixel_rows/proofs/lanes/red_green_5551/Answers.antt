use Rattle.pixel_rows.proofs.LaneWords.{red_green_5551_is}
use Rattle.pixel_rows.proofs.lanes.red_green_5551.Goals as goal

pub returns : goal.returns
returns c = red_green_5551_is c.args.v 8 c.fits-v.0
