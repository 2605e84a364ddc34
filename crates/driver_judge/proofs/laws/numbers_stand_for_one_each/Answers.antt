use Rattle.driver_judge.proofs.PairLaws.{one_to_one}
use Rattle.driver_judge.proofs.laws.numbers_stand_for_one_each.Goals as goal

pub returns : goal.returns
returns c = one_to_one
