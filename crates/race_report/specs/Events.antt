-- The events of a journal, by what its entries touch.
use Rattle.std.specs.Prelude.{List, [], ◌∷◌}
use Rattle.egl_calls.specs.declared.entries.Entry.{Entry}
use Rattle.trace_reader.specs.declared.traces.Line.{Line}
use Rattle.race_report.specs.declared.events.Event.{Event}
use Rattle.driver_facts.specs.declared.touches.Touches.{Touches}
use Rattle.race_report.specs.Leading.{behind_of}

-- the event of an entry of a journal
abbrev pub event_of : List Line → List Entry → Entry → Touches → Event
event_of lines journal e t = record { thread = e.thread; behind = behind_of lines journal e; reads = t.reads; writes = t.writes }

-- of some entries of it, in their order
abbrev pub events_in : List Line → List Entry → List Entry → List Touches → List Event
events_in lines journal [] ts = []
events_in lines journal (e ∷ es) [] = []
events_in lines journal (e ∷ es) (t ∷ ts) = event_of lines journal e t ∷ events_in lines journal es ts

-- and of all
unfoldable pub events_of : List Line → List Entry → List Touches → List Event
events_of lines journal ts = events_in lines journal journal ts
