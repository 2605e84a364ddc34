-- Handles by their numbers.
use Rattle.std.specs.Prelude.{ℕ, List, Option, ◌==◌, nat_lt}
use Rattle.std.specs.List.{filter, find}
use Rattle.display_table.specs.declared.handles.Handle.{Handle}

-- the first handle with a number
abbrev pub numbered : ℕ → List Handle → Option Handle
numbered n handles = find (λ h. h.number == n) handles

-- the handles whose numbers are below one
abbrev pub below : ℕ → List Handle → List Handle
below n handles = filter (λ h. nat_lt h.number n) handles
