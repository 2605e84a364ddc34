use Rattle.driver_judge.proofs.StepLaws.{log_allows, more_allow_more}
use Rattle.driver_judge.proofs.laws.more_steps_allow_more.Goals as goal

pub returns-clause-line : goal.returns-clause-line
returns-clause-line c = more_allow_more

pub returns-clause-log : goal.returns-clause-log
returns-clause-log c = log_allows
