use Rattle.config_match.proofs.ChoiceLaws.{choice}
use Rattle.config_match.proofs.laws.a_choice_has_those_that_match_in_order.Goals as goal

pub returns : goal.returns
returns c = choice
