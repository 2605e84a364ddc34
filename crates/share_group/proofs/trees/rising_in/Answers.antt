use Rattle.share_group.proofs.NodeLaws.{rise_node}
use Rattle.share_group.proofs.trees.rising_in.Goals as goal

pub returns : goal.returns
returns c = rise_node _ _ _ c.requires
