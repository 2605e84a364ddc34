-- Schedules: the threads of a history in the order of its entries.
use Rattle.std.specs.Prelude.{◌≡◌, ℕ, ◌-◌, List, [], ◌∷◌, ◌++◌, if◌then◌else◌}
use Rattle.std.specs.List.{flat_map, range_with_len}
use Rattle.egl_calls.specs.declared.entries.Entry.{Entry}
use Rattle.trace_reader.specs.Traces.{TraceValue}
use Rattle.trace_model.specs.Serial.{state_behind}
use Rattle.trace_model.specs.Turns.{is_able}
use Rattle.trace_outcomes.specs.Histories.{able_among, after, histories_behind}
use Rattle.trace_outcomes.specs.Outcomes.{OutcomeValue, outcome_of}

-- a journal behind the turns of these threads
abbrev pub follow : TraceValue → List Entry → List ℕ → List Entry
follow t journal [] = journal
follow t journal (u ∷ us) = follow t (after t journal u) us

-- the histories that go on from schedules, of which the last is the first to be gone on from
abbrev pub left : TraceValue → List (List ℕ) → List (List Entry)
left t [] = []
left t (x ∷ xs) = left t xs ++ histories_behind t (follow t [] x)

-- the histories of those that go on by a thread, where it can go on
abbrev pub histories_by : TraceValue → List Entry → ℕ → List (List Entry)
histories_by t journal u = if is_able t.lines journal (state_behind t journal) u then histories_behind t (after t journal u) else []

-- and by the threads from a number on
abbrev pub histories_by_all : TraceValue → List Entry → ℕ → List (List Entry)
histories_by_all t journal first = flat_map (λ u. histories_behind t (after t journal u)) (able_among t journal (range_with_len first (t.threads - first)))

-- an outcome is that of the first of these histories, and those are the others
pub record IsFirst (t : TraceValue) (all : List (List Entry)) (o : OutcomeValue) (others : List (List Entry)) : Type 0 where
  pub journal : List Entry
  pub first : journal ∷ others ≡ all
  pub outcome : o ≡ outcome_of t journal
