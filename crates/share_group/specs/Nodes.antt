-- The nodes of a tree of names. No public clause cites this module.
use Rattle.std.specs.Prelude.{ℕ, ◌≤◌, List, [], ◌∷◌, ◌++◌}
use Rattle.share_group.specs.declared.names.Name.{Name}
use Rattle.share_group.specs.Trees.{IsFork}
use Rattle.share_group.specs.declared.trees.Node.{Node}
use Rattle.share_group.specs.declared.trees.Node.TheVariants.{Empty, One, Fork}

abbrev pub names_in : Node → List Name
names_in Empty = []
names_in (One n) = n ∷ []
names_in (Fork l names objects r) = l.value.names ++ r.value.names

abbrev pub IsNode : ℕ → ℕ → Node → Type 0
IsNode low last Empty = low ≤ last
IsNode low last (One n) = (low ≤ n.name) × (n.name ≤ last)
IsNode low last (Fork l names objects r) = IsFork low last names objects l.value r.value
