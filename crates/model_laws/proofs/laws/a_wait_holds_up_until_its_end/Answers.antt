use Rattle.model_laws.proofs.Steps.RefusalLaws.{held_up, no_wait, still_waits, wait_ends}
use Rattle.model_laws.proofs.laws.a_wait_holds_up_until_its_end.Goals as goal

pub returns-clause-held_up : goal.returns-clause-held_up
returns-clause-held_up c = held_up

pub returns-clause-waits : goal.returns-clause-waits
returns-clause-waits c = still_waits

pub returns-clause-ends : goal.returns-clause-ends
returns-clause-ends c = wait_ends

pub returns-clause-none : goal.returns-clause-none
returns-clause-none c = no_wait
