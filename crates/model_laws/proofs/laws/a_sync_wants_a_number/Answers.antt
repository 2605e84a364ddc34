use Rattle.model_laws.proofs.Waits.NewSyncLaws.{sync_is_refused, sync_wants_number}
use Rattle.model_laws.proofs.laws.a_sync_wants_a_number.Goals as goal

pub returns-clause-faultless : goal.returns-clause-faultless
returns-clause-faultless c = λ s t call h a. (sync_is_refused s t call h a).0

pub returns-clause-wants : goal.returns-clause-wants
returns-clause-wants c = λ s t call h f. (λ a. (sync_is_refused s t call h a).1, λ w. sync_wants_number s t call h (f, w))
