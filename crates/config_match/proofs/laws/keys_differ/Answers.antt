use Rattle.config_match.proofs.ChoiceLaws.{keys_apart}
use Rattle.config_match.proofs.laws.keys_differ.Goals as goal

pub returns : goal.returns
returns c = record { each = keys_apart }
