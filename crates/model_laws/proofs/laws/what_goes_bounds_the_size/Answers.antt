use Rattle.model_laws.proofs.References.RefLaws.{size_gone}
use Rattle.model_laws.proofs.laws.what_goes_bounds_the_size.Goals as goal

pub returns : goal.returns
returns c = size_gone
