use Rattle.surface_store.proofs.FormatLaws.{alike}
use Rattle.surface_store.proofs.laws.compatible_store_alike.Goals as goal

pub returns : goal.returns
returns c = alike
