-- The list of races as it grows.
use Rattle.std.specs.Prelude.{ℕ, List}
use Rattle.std.specs.List.{Contains}
use Rattle.race_report.specs.declared.events.Event.{Event}
use Rattle.race_report.specs.declared.reports.Pair.{Pair}
use Rattle.race_report.specs.Races.{IsRace, IsBefore, IsRising}

-- the list so far: the races in front of two places
pub record IsFound (events : List Event) (pairs : List Pair) (i j : ℕ) : Type 0 where
  pub rising : IsRising pairs
  pub sound : (p : Pair) → Contains pairs p → IsRace events p.first p.second
  pub front : (p : Pair) → Contains pairs p → IsBefore p i j
  pub whole : (p : Pair) → IsRace events p.first p.second → IsBefore p i j → Contains pairs p
