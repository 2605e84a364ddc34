use Rattle.model_laws.proofs.Pixels.TextureLaws.{copy_is_refused, copy_wants_pixels}
use Rattle.model_laws.proofs.laws.a_copy_wants_pixels.Goals as goal

pub returns : goal.returns
returns c = λ s t n call h i. (copy_is_refused s t n call h i, copy_wants_pixels s t n call h i)
