use Rattle.texture_objects.proofs.TextureLaws.{keeps}
use Rattle.texture_objects.proofs.laws.keeps_other_parameters.Goals as goal

pub returns : goal.returns
returns c = keeps
