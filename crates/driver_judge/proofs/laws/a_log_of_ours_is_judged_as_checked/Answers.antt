use Rattle.driver_judge.proofs.ChoiceLaws.{judged_as_checked}
use Rattle.driver_judge.proofs.laws.a_log_of_ours_is_judged_as_checked.Goals as goal

pub returns : goal.returns
returns c = judged_as_checked
