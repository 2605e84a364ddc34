use Rattle.model_laws.proofs.Pixels.WantLaws.{creations_answer}
use Rattle.model_laws.proofs.laws.creations_alone_want.Goals as goal

pub returns : goal.returns
returns c = creations_answer
