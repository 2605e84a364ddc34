use Rattle.attrib_lists.proofs.ListLaws.{the_last_counts}
use Rattle.attrib_lists.proofs.laws.the_last_pair_counts.Goals as goal

pub returns : goal.returns
returns c = the_last_counts
