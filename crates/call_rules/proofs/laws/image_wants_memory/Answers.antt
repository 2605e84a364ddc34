use Rattle.call_rules.proofs.GlLaws.{image_wants, wanting_image}
use Rattle.call_rules.proofs.laws.image_wants_memory.Goals as goal

pub returns : goal.returns
returns c = λ call f h. (image_wants call f h, wanting_image call f h)
