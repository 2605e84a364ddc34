use Rattle.model_laws.proofs.References.Holders.{holder-replay}
use Rattle.model_laws.proofs.laws.what_exists_is_named.Goals as goal

pub returns : goal.returns
returns c = holder-replay
