use Rattle.share_group.specs.Groups.{edges_of}
use Rattle.share_group.proofs.NameLaws.{found_object}
use Rattle.share_group.proofs.groups.Group.edge.Goals as goal

pub returns : goal.returns
unfolding edges_of
returns c = rw (← c.self.view_is) (found_object _ c.args.k c.from.result c.unwrap_or.result c.edge_in-object.result c.from.ensures c.edge_in-object.ensures c.unwrap_or.ensures (rw (← c.self.view_is) at c.requires))
