-- The sizes of the components that formats keep.
use Rattle.std.specs.Prelude.{ℕ, List, [], ◌∷◌}

-- the bits that a kept component has in one format or another
abbrev pub kept_sizes : List ℕ
kept_sizes = 1 ∷ 4 ∷ 5 ∷ 6 ∷ 8 ∷ []
