use Rattle.model_laws.proofs.Parts.OwnedPixels.{draw_owned, read_owned}
use Rattle.model_laws.proofs.late_laws.surfaces_own_their_pixels.Goals as goal

pub returns-clause-draw : goal.returns-clause-draw
returns-clause-draw c = draw_owned

pub returns-clause-read : goal.returns-clause-read
returns-clause-read c = read_owned
