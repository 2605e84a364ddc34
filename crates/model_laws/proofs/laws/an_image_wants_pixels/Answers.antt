use Rattle.model_laws.proofs.Pixels.TextureLaws.{image_is_refused, image_wants_pixels}
use Rattle.model_laws.proofs.laws.an_image_wants_pixels.Goals as goal

pub returns : goal.returns
returns c = λ s t n call h i. (image_is_refused s t n call h i, image_wants_pixels s t n call h i)
