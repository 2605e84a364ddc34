use Rattle.share_group.proofs.FreeLaws.{smallest_unused}
use Rattle.share_group.proofs.laws.smallest_unused_name.Goals as goal

pub returns : goal.returns
returns c = smallest_unused
