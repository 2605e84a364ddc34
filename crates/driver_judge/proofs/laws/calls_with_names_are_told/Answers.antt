use Rattle.driver_judge.proofs.UsedNameLaws.{names_told}
use Rattle.driver_judge.proofs.laws.calls_with_names_are_told.Goals as goal

pub returns : goal.returns
returns c = names_told
