-- A list of words, and for each length the places of its words.
use Rattle.std.specs.Prelude.{◌≡◌, ℕ, ◌+◌, Bool, true, false, List, [], ◌∷◌, Option, None, Some, if◌then◌else◌, ◌==◌, nat_lt, length, map, slice_get}
use Rattle.std.specs.List.{list_all, range_with_len}
use Rattle.std.specs.Option.{option_map_or}
use Rattle.std.specs.Str.{bytes_eq}

-- the places of the words of length n, where the first word stands at the place k
abbrev pub places_from : ℕ → ℕ → List (List ℕ) → List ℕ
places_from k n [] = []
places_from k n (w ∷ ws) = if length w == n then k ∷ places_from (k + 1) n ws else places_from (k + 1) n ws

-- the row of a length has the places of the words of that length, and there is a row for each word
pub record AreByLength (words : List (List ℕ)) (rows : List (List ℕ)) : Type 0 where
  pub places : rows ≡ map (λ n. places_from 0 n words) (range_with_len 0 (length rows))
  pub all : list_all (λ w. nat_lt (length w) (length rows)) words ≡ true

-- whether a word stands at a place
abbrev pub stands_at : List (List ℕ) → List ℕ → ℕ → Bool
stands_at words w k = option_map_or (λ x. bytes_eq x w) (slice_get words k) false

-- the first of some places at which a word stands
abbrev pub first_at : List (List ℕ) → List ℕ → List ℕ → Option ℕ
first_at words [] w = None
first_at words (k ∷ ks) w = if stands_at words w k then Some k else first_at words ks w
