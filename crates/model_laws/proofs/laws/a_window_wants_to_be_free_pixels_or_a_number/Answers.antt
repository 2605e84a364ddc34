use Rattle.model_laws.proofs.Pixels.WantedWindows.{window_is_refused, window_wants_something}
use Rattle.model_laws.proofs.laws.a_window_wants_to_be_free_pixels_or_a_number.Goals as goal

pub returns-clause-faultless : goal.returns-clause-faultless
returns-clause-faultless c = λ s t call h a. (window_is_refused s t call h a).0

pub returns-clause-wants : goal.returns-clause-wants
returns-clause-wants c = λ s t call h f. (λ a. (window_is_refused s t call h a).1, λ w. window_wants_something s t call h (f, w))
