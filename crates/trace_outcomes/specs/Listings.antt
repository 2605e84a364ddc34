-- What is listed of a trace.
use Rattle.std.specs.Prelude.{◌≡◌, ◌<◌, ◌≤◌, length, Option, None, Some}
use Rattle.trace_reader.specs.Traces.{TraceValue}
use Rattle.trace_outcomes.specs.Histories.{histories}
use Rattle.trace_outcomes.specs.Outcomes.{met, outcomes}
use Rattle.trace_outcomes.specs.declared.listing.Listing.{Listing}
use Rattle.trace_outcomes.specs.declared.listing.TheConstants.{MOST_HISTORIES}

-- the outcomes that are met, in the order in which they are, and the count of histories
pub record AreMet (t : TraceValue) (l : Listing) : Type 0 where
  pub few : length (histories t) ≤ MOST_HISTORIES
  pub outcomes : l.outcomes.items ≡ met t
  pub histories : l.histories ≡ length (histories t)

-- all outcomes and the count of histories
pub record AreListed (t : TraceValue) (l : Listing) : Type 0 where
  pub few : length (histories t) ≤ MOST_HISTORIES
  pub outcomes : l.outcomes.items ≡ outcomes t
  pub histories : l.histories ≡ length (histories t)

-- or there are more histories than are played
abbrev pub IsSearch : TraceValue → Option Listing → Type 0
IsSearch t None = MOST_HISTORIES < length (histories t)
IsSearch t (Some l) = AreMet t l

abbrev pub IsListing : TraceValue → Option Listing → Type 0
IsListing t None = MOST_HISTORIES < length (histories t)
IsListing t (Some l) = AreListed t l
