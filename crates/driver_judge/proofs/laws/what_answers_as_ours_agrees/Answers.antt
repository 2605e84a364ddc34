use Rattle.driver_judge.proofs.OursLaws.{carried_agrees, log_agrees, refused_agrees}
use Rattle.driver_judge.proofs.OutcomeLaws.{right_agrees}
use Rattle.driver_judge.proofs.laws.what_answers_as_ours_agrees.Goals as goal

pub returns-clause-outcome : goal.returns-clause-outcome
returns-clause-outcome c = right_agrees

pub returns-clause-refused : goal.returns-clause-refused
returns-clause-refused c = refused_agrees

pub returns-clause-carried_out : goal.returns-clause-carried_out
returns-clause-carried_out c = carried_agrees

pub returns-clause-log : goal.returns-clause-log
returns-clause-log c = log_agrees
