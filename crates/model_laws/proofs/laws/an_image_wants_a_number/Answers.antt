use Rattle.model_laws.proofs.Pixels.WantLaws.{image_is_refused, image_wants_number}
use Rattle.model_laws.proofs.laws.an_image_wants_a_number.Goals as goal

pub returns-clause-faultless : goal.returns-clause-faultless
returns-clause-faultless c = λ s t call h a. (image_is_refused s t call h a).0

pub returns-clause-wants : goal.returns-clause-wants
returns-clause-wants c = λ s t call h f. (λ a. (image_is_refused s t call h a).1, λ w. image_wants_number s t call h (f, w))
