use Rattle.share_group.proofs.GivenLaws.{gives_the_smallest}
use Rattle.share_group.proofs.laws.smallest_names_are_given.Goals as goal

pub returns : goal.returns
returns c = gives_the_smallest
