use Rattle.driver_judge.proofs.RunLaws.{agreed_runs}
use Rattle.driver_judge.proofs.laws.what_agrees_is_a_run.Goals as goal

pub returns : goal.returns
returns c = agreed_runs
