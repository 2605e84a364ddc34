use Rattle.texture_objects.proofs.TextureLaws.{answers}
use Rattle.texture_objects.proofs.laws.answers_what_is_set.Goals as goal

pub returns : goal.returns
returns c = answers
