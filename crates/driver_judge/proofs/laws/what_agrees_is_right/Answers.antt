use Rattle.driver_judge.proofs.OutcomeLaws.{right}
use Rattle.driver_judge.proofs.laws.what_agrees_is_right.Goals as goal

pub returns : goal.returns
returns c = right
