-- Keys: lists of numbers, of which the first that differ decide.
use Rattle.std.specs.Prelude.{ℕ, Bool, List, [], ◌∷◌, if◌then◌else◌}
use Rattle.std.specs.Ordering.{nat_cmp, is_lt}
use Rattle.std.specs.Cmp.Lexicographic.{slice_cmp}

-- whether the first part that differs is less
abbrev pub comes_before : List ℕ → List ℕ → Bool
comes_before a b = is_lt (slice_cmp nat_cmp a b)

-- a key among rising ones, behind those that come before it
abbrev pub placed : List ℕ → List (List ℕ) → List (List ℕ)
placed k [] = k ∷ []
placed k (x ∷ xs) = if comes_before k x then k ∷ x ∷ xs else x ∷ placed k xs

-- the keys in rising order
abbrev pub rising : List (List ℕ) → List (List ℕ)
rising [] = []
rising (k ∷ ks) = placed k (rising ks)
