-- The races of a run: of the events of its journal, by what its entries touch when they are played again.
use Rattle.std.specs.Prelude.{List, [], ◌∷◌}
use Rattle.egl_calls.specs.declared.entries.Entry.{Entry}
use Rattle.egl_model.specs.State.{State, opening}
use Rattle.egl_model.specs.Step.{step}
use Rattle.trace_reader.specs.Traces.{TraceValue}
use Rattle.driver_facts.specs.declared.touches.Touches.{Touches}
use Rattle.driver_facts.specs.Touches.{touches_of}
use Rattle.race_report.specs.declared.events.Event.{Event}
use Rattle.race_report.specs.declared.reports.Pair.{Pair}
use Rattle.race_report.specs.Events.{events_of}
use Rattle.race_report.specs.Races.{AreRaces}

-- what entries touch, of which the first is played from this state on
abbrev pub touched_from : State → List Entry → List Touches
touched_from s [] = []
touched_from s (e ∷ es) = touches_of s e.thread e.call ∷ touched_from (step s e.thread e.call).state es

-- the events of a journal of a trace
abbrev pub run_events : TraceValue → List Entry → List Event
run_events t journal = events_of t.lines journal (touched_from (opening t.windows t.video) journal)

-- the list of all races of a journal of a trace
unfoldable pub AreRacesOf : TraceValue → List Entry → List Pair → Type 0
AreRacesOf t journal pairs = AreRaces (run_events t journal) pairs
