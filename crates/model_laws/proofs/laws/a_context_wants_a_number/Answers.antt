use Rattle.model_laws.proofs.Pixels.WantLaws.{context_is_refused, context_wants_number}
use Rattle.model_laws.proofs.laws.a_context_wants_a_number.Goals as goal

pub returns-clause-faultless : goal.returns-clause-faultless
returns-clause-faultless c = λ s t call h a. (context_is_refused s t call h a).0

pub returns-clause-wants : goal.returns-clause-wants
returns-clause-wants c = λ s t call h f. (λ a. (context_is_refused s t call h a).1, λ w. context_wants_number s t call h (f, w))
