-- What events touch, found by the thing.
use Rattle.std.specs.Prelude.{◌≡◌, ℕ, ◌+◌, ◌<◌, ℤ, Bool, true, ◌==◌, nat_lt, List, [], ◌∷◌, ◌++◌, if◌then◌else◌, length, map, slice_get, Some}
use Rattle.std.specs.Int.RustNames.{unsigned_abs}
use Rattle.std.specs.List.{All, Contains, filter}
use Rattle.std.specs.List.Sorted.{IsPermutation, IsNonDecreasing, IsNonDecreasingBy}
use Rattle.race_report.specs.declared.accesses.Access.{Access}
use Rattle.race_report.specs.declared.accesses.Accesses.{Accesses}
use Rattle.race_report.specs.declared.events.Event.{Event}
use Rattle.race_report.specs.Conflicts.{conflict}

-- a use of a thing by the event at a place; its key is the thing's number without the sign, so one thing has one key
abbrev pub access : ℕ → ℤ → Access
access place thing = record { key = unsigned_abs thing; place = place }

-- the writes of events, of which the first stands at place k
unfoldable pub writes_from : ℕ → List Event → List Access
writes_from k [] = []
writes_from k (e ∷ es) = map (access k) e.writes ++ writes_from (k + 1) es

-- and all that they touch
unfoldable pub touches_from : ℕ → List Event → List Access
touches_from k [] = []
touches_from k (e ∷ es) = map (access k) e.reads ++ (map (access k) e.writes ++ touches_from (k + 1) es)

-- the same accesses, by rising keys
abbrev pub AreByKeys : List Access → Type 0
AreByKeys accesses = IsNonDecreasingBy (λ (a : Access). a.key) accesses

-- all accesses of events, and their writes
pub record AreAccesses (events : List Event) (index : Accesses) : Type 0 where
  pub touches : IsPermutation (touches_from 0 events) index.touches
  pub touch_keys : AreByKeys index.touches
  pub writes : IsPermutation (writes_from 0 events) index.writes
  pub write_keys : AreByKeys index.writes

abbrev pub has_key : ℕ → Access → Bool
has_key key a = a.key == key

-- the places behind a first one at which accesses are
unfoldable pub places_behind : ℕ → List Access → List ℕ
places_behind first [] = []
places_behind first (a ∷ rest) = if nat_lt first a.place then a.place ∷ places_behind first rest else places_behind first rest

-- those of the accesses that have the keys of things
unfoldable pub users : ℕ → List Access → List ℤ → List ℕ
users first accesses [] = []
users first accesses (x ∷ xs) = places_behind first (filter (has_key (unsigned_abs x)) accesses) ++ users first accesses xs

-- places behind a first one, rising, among them each whose event touches what that of the first touches, one of them by a write
pub record AreSeconds (events : List Event) (first : ℕ) (seconds : List ℕ) : Type 0 where
  pub rising : IsNonDecreasing seconds
  pub within : All (λ j. (first < j) × (j < length events)) seconds
  pub whole : (j : ℕ) (d e : Event) → first < j → slice_get events first ≡ Some d → slice_get events j ≡ Some e → conflict d e ≡ true → Contains seconds j
