use Rattle.std.proofs.Common.{sym, ◌∙◌}
use Rattle.share_group.specs.Groups.{edges_of}
use Rattle.share_group.proofs.NameLaws.{four_lengths}
use Rattle.share_group.proofs.groups.Group.edge_count.Goals as goal

pub returns : goal.returns
unfolding edges_of
returns c = rw (← c.self.view_is) (c.total-objects.ensures ∙ sym (four_lengths _ _ _ _))
