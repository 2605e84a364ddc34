use Rattle.call_rules.proofs.EglLaws.{image_wants, wanting_image}
use Rattle.call_rules.proofs.laws.image_wants_handles.Goals as goal

pub returns : goal.returns
returns c = λ call f h. (image_wants call f h, wanting_image call f h)
