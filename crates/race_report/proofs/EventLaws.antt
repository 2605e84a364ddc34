-- The events of a journal's entries.
use Rattle.std.proofs.Common.{◌≡◌, ◌<◌, List, [], ◌∷◌}
use Rattle.std.proofs.lemmas.List.Elements.{All-nil, All-cons, All-head, All-tail, All-same}
use Rattle.std.specs.Prelude.{All}
use Rattle.egl_calls.specs.declared.entries.Entry.{Entry}
use Rattle.trace_reader.specs.Header.{most_threads}
use Rattle.trace_reader.specs.declared.traces.Line.{Line}
use Rattle.race_report.specs.declared.events.Event.{Event}
use Rattle.driver_facts.specs.declared.touches.Touches.{Touches}
use Rattle.race_report.specs.Events.{event_of, events_in, events_of}

abbrev IsFew : Event → Type 0
IsFew e = e.thread < most_threads

-- the thread of an event is that of its entry
few_in : (lines : List Line) (journal es : List Entry) (ts : List Touches) → All (λ (e : Entry). e.thread < most_threads) es → All IsFew (events_in lines journal es ts)
few_in lines journal [] ts h = All-nil IsFew
few_in lines journal (e ∷ es) [] h = All-nil IsFew
few_in lines journal (e ∷ es) (t ∷ ts) h =
    All-cons IsFew (event_of lines journal e t) (events_in lines journal es ts) (All-head (λ (x : Entry). x.thread < most_threads) e es h)
    (few_in lines journal es ts (All-tail (λ (x : Entry). x.thread < most_threads) e es h))

pub few_threads : (lines : List Line) (journal : List Entry) (ts : List Touches) → All (λ (e : Entry). e.thread < most_threads) journal → (events : List Event) → events ≡ events_of lines journal ts → All IsFew events
unfolding events_of
few_threads lines journal ts h events same = All-same IsFew events (events_in lines journal journal ts) same (few_in lines journal journal ts h)
