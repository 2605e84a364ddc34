-- The races of a run.
use Rattle.std.specs.Prelude.{◌≡◌, ◌≢◌, ℕ, ◌<◌, ◌⊎◌, true, List, slice_get, Some}
use Rattle.std.specs.List.{Contains}
use Rattle.race_report.specs.declared.events.Event.{Event}
use Rattle.race_report.specs.declared.reports.Pair.{Pair}
use Rattle.race_report.specs.Conflicts.{conflict}
use Rattle.race_report.specs.Order.{IsOrdered}

-- two events of different threads touch one thing, one of them by a write, and no chain leads from the earlier to the later
pub record IsRace (events : List Event) (i j : ℕ) : Type 0 where
  pub before : i < j
  pub earlier : Event
  pub there : slice_get events i ≡ Some earlier
  pub later : Event
  pub here : slice_get events j ≡ Some later
  pub apart : earlier.thread ≢ later.thread
  pub touch : conflict earlier later ≡ true
  pub unordered : ¬ (IsOrdered events i j)

-- a pair stands before two places: by its first, and where those are equal by its second
abbrev pub IsBefore : Pair → ℕ → ℕ → Type 0
IsBefore p i j = (p.first < i) ⊎ ((p.first ≡ i) × (p.second < j))

-- the pairs rise
abbrev pub IsRising : List Pair → Type 0
IsRising pairs = (a b : ℕ) (p q : Pair) → a < b → slice_get pairs a ≡ Some p → slice_get pairs b ≡ Some q → IsBefore p q.first q.second

-- the list of all races, which rises
pub record AreRaces (events : List Event) (pairs : List Pair) : Type 0 where
  pub rising : IsRising pairs
  pub sound : (p : Pair) → Contains pairs p → IsRace events p.first p.second
  pub whole : (p : Pair) → IsRace events p.first p.second → Contains pairs p
