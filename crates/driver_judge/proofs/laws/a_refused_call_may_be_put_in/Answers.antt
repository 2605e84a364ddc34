use Rattle.driver_judge.proofs.PutInLaws.{is_noted, may_be_put_in}
use Rattle.driver_judge.proofs.laws.a_refused_call_may_be_put_in.Goals as goal

pub returns-clause-line : goal.returns-clause-line
returns-clause-line c = may_be_put_in

pub returns-clause-noted : goal.returns-clause-noted
returns-clause-noted c = is_noted
