use Rattle.call_rules.proofs.EglLaws.{image_allowed, image_passes}
use Rattle.call_rules.proofs.laws.image_is_allowed.Goals as goal

pub returns : goal.returns
returns c = λ call f h. (image_allowed call f h, image_passes call f h)
