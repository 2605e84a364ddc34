use Rattle.std.proofs.Common.{true, false}
use Rattle.model_laws.proofs.Waits.WaitOutcomes.{by_tests, is_satisfied}
use Rattle.model_laws.proofs.Waits.WaitWords.{satisfied_after, satisfied_before, unsatisfied_after, waits, waits_for_none}
use Rattle.model_laws.proofs.laws.a_client_wait_is_satisfied_waits_or_expires.Goals as goal

pub returns-clause-flush : goal.returns-clause-flush
returns-clause-flush c = λ s t n call. (satisfied_before s t n call, satisfied_after s t n call)

pub returns-clause-satisfied : goal.returns-clause-satisfied
returns-clause-satisfied c = λ s t call h a e i. is_satisfied s t call h a e (satisfied_after s t h.object call i)

pub returns-clause-waits : goal.returns-clause-waits
returns-clause-waits c = λ s t call h a e u f. by_tests s t call h false true a e (unsatisfied_after s t h.object call u) f

pub returns-clause-expires : goal.returns-clause-expires
returns-clause-expires c = λ s t call h a e u f. by_tests s t call h false false a e (unsatisfied_after s t h.object call u) f

pub returns-clause-waiting : goal.returns-clause-waiting
returns-clause-waiting c = waits

pub returns-clause-free : goal.returns-clause-free
returns-clause-free c = waits_for_none
