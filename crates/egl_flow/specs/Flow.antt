-- What a source gives and a sink takes.
use Rattle.std.specs.Prelude.{◌≡◌, ℕ, ◌-◌, ◌<◌, ◌^◌, ◌⊎◌, List, [], ◌++◌, length, take, Option, None, Some}

-- a count of faults rose, or stands at the last value of a u64
abbrev pub HasRisen : ℕ → ℕ → Type 0
HasRisen before now = (before < now) ⊎ (now ≡ 2 ^ 64 - 1)

-- what was left is these bytes, and then what is left now; a source that tells goes on telling
abbrev pub Gave : Option (List ℕ) → List ℕ → Option (List ℕ) → Type 0
Gave None bytes rest = Unit {0}
Gave (Some left) bytes (Some rest) = left ≡ bytes ++ rest
Gave (Some left) bytes None = ⊥

-- nothing is left
abbrev pub AtEnd : Option (List ℕ) → Type 0
AtEnd None = Unit {0}
AtEnd (Some left) = left ≡ []

-- what is taken now is what was taken before, and then these bytes; a sink that tells goes on telling
abbrev pub Took : Option (List ℕ) → List ℕ → Option (List ℕ) → Type 0
Took None bytes after = Unit {0}
Took (Some before) bytes (Some after) = after ≡ before ++ bytes
Took (Some before) bytes None = ⊥

-- some of these bytes, from their front, were taken, and not all of them
abbrev pub TookFront : Option (List ℕ) → List ℕ → Option (List ℕ) → Type 0
TookFront before bytes after = (n : ℕ) × (n < length bytes) × Took before (take n bytes) after
