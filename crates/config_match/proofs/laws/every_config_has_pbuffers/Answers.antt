use Rattle.config_match.proofs.ConfigLaws.{pbuffers_are}
use Rattle.config_match.proofs.laws.every_config_has_pbuffers.Goals as goal

pub returns : goal.returns
returns c = pbuffers_are
