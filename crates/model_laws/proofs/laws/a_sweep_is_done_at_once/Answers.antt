use Rattle.model_laws.proofs.References.SweepLaws.{sweep-sweep}
use Rattle.model_laws.proofs.laws.a_sweep_is_done_at_once.Goals as goal

pub returns : goal.returns
returns c = sweep-sweep
