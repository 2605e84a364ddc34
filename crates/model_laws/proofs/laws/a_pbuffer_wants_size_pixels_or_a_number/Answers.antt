use Rattle.model_laws.proofs.Pixels.WantLaws.{pbuffer_is_refused, pbuffer_wants_something}
use Rattle.model_laws.proofs.laws.a_pbuffer_wants_size_pixels_or_a_number.Goals as goal

pub returns-clause-faultless : goal.returns-clause-faultless
returns-clause-faultless c = λ s t call h a. (pbuffer_is_refused s t call h a).0

pub returns-clause-wants : goal.returns-clause-wants
returns-clause-wants c = λ s t call h f. (λ a. (pbuffer_is_refused s t call h a).1, λ w. pbuffer_wants_something s t call h (f, w))
