use Rattle.config_match.proofs.ConfigLaws.{compatibility}
use Rattle.config_match.proofs.laws.compatible_either_way.Goals as goal

pub returns : goal.returns
returns c = compatibility
