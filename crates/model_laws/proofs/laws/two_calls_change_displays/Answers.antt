use Rattle.model_laws.proofs.Handles.DisplayLaws.{flag_off, flag_on, other_off, other_on}
use Rattle.model_laws.proofs.Steps.FrameLaws.{turns_no_flag}
use Rattle.model_laws.proofs.Steps.StepKeeps.{flags-step}
use Rattle.model_laws.proofs.laws.two_calls_change_displays.Goals as goal

pub returns-clause-first : goal.returns-clause-first
returns-clause-first c = λ s t call i e. (flags-step s t call (turns_no_flag call.kind i e)).0

pub returns-clause-second : goal.returns-clause-second
returns-clause-second c = λ s t call i e. (flags-step s t call (turns_no_flag call.kind i e)).1

pub returns-clause-initialized : goal.returns-clause-initialized
returns-clause-initialized c = flag_on

pub returns-clause-terminated : goal.returns-clause-terminated
returns-clause-terminated c = flag_off

pub returns-clause-initialized_other : goal.returns-clause-initialized_other
returns-clause-initialized_other c = other_on

pub returns-clause-terminated_other : goal.returns-clause-terminated_other
returns-clause-terminated_other c = other_off
