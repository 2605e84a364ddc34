use Rattle.config_match.proofs.ConfigLaws.{ids_are}
use Rattle.config_match.proofs.laws.ids_are_one_to_eight.Goals as goal

pub returns : goal.returns
returns c = ids_are
