use Rattle.config_match.proofs.ChoiceLaws.{at_most_32}
use Rattle.config_match.proofs.laws.requested_bits_fit.Goals as goal

pub returns : goal.returns
returns c = record { each = at_most_32 }
