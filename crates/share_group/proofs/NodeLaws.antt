-- The names of a node.
use Rattle.std.proofs.Common.{ℕ, ◌+◌, arith}
use Rattle.share_group.specs.Names.{Rise}
use Rattle.share_group.specs.Nodes.{names_in, IsNode}
use Rattle.share_group.specs.declared.trees.Node.{Node}
use Rattle.share_group.specs.declared.trees.Node.TheVariants.{Empty, One, Fork}
use Rattle.share_group.proofs.ForkLaws.{rise-fork}

pub rise_node : (low last : ℕ) (n : Node) → IsNode low last n → Rise low (names_in n) (last + 1)
rise_node low last Empty h = omega arith
rise_node low last (One n) h = (h.0, omega (arith, h.1))
rise_node low last (Fork l names objects r) h = rise-fork low last names objects l.value r.value h
