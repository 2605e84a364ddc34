-- Each half of a range is smaller than the range.
use Rattle.std.specs.Prelude.{ℕ, ◌≤◌, ◌-◌, max}
use Rattle.std.proofs.Common.{arith}
use Rattle.share_group.specs.declared.trees.Node.{Node}
use Rattle.share_group.specs.declared.trees.Node.TheVariants.{Empty, One, Fork}
use Rattle.share_group.specs.declared.trees.Tree.TheDeep.{deep-Node}
use Rattle.share_group.specs.Nodes.{IsNode}

-- no half has more numbers
pub depth_le_width : (low last : ℕ) (n : Node) → IsNode low last n → max (deep-Node n) 0 ≤ last - low
depth_le_width low last Empty h = omega arith
depth_le_width low last (One n) h = omega arith
depth_le_width low last (Fork l names objects r) h = omega arith
