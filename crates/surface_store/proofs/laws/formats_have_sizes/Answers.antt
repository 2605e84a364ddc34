use Rattle.surface_store.proofs.FormatLaws.{sizes}
use Rattle.surface_store.proofs.laws.formats_have_sizes.Goals as goal

pub returns : goal.returns
returns c = sizes
