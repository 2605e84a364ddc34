use Rattle.model_laws.proofs.Handles.DestroyLaws.{currents_kept}
use Rattle.model_laws.proofs.laws.what_is_destroyed_stays_current.Goals as goal

pub returns : goal.returns
returns c = currents_kept
