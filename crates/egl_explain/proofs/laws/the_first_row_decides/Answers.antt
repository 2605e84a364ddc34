use Rattle.egl_explain.proofs.DecidingLaws.{decided}
use Rattle.egl_explain.proofs.laws.the_first_row_decides.Goals as goal

pub returns : goal.returns
returns c = decided
