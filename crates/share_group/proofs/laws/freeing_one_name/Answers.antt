use Rattle.share_group.proofs.FreeLaws.{frees_one}
use Rattle.share_group.proofs.laws.freeing_one_name.Goals as goal

pub returns : goal.returns
returns c = frees_one
