-- What histories and outcomes are, apart from the order in which they are looked for.
use Rattle.std.specs.Prelude.{◌≡◌, ◌⊎◌, ℕ, zero, suc, ◌+◌, ◌≤◌, List, [], ◌∷◌, length, if◌then◌else◌}
use Rattle.egl_calls.specs.declared.entries.Entry.{Entry}
use Rattle.trace_reader.specs.Traces.{TraceValue}
use Rattle.trace_model.specs.Follows.{IsPlayOf}
use Rattle.trace_model.specs.Stalled.{IsComplete, IsStalled}
use Rattle.trace_outcomes.specs.Outcomes.{OutcomeValue, agrees_at, outcome_of, key_of}

-- one of a list
abbrev pub IsAmong : {A : Type 0} → A → List A → Type 0
IsAmong x [] = ⊥
IsAmong x (y ∷ ys) = (y ≡ x) ⊎ IsAmong x ys

-- a journal plays the trace to the end of all its threads, or until none can go on
pub record IsHistory (t : TraceValue) (journal : List Entry) : Type 0 where
  pub play : IsPlayOf t journal
  pub over : IsComplete t journal ⊎ IsStalled t journal

-- a history has this outcome
pub record HasOutcome (t : TraceValue) (o : OutcomeValue) : Type 0 where
  pub journal : List Entry
  pub history : IsHistory t journal
  pub outcome : outcome_of t journal ≡ o

-- an outcome of these is that of a history, by all but its order
pub record IsListed (t : TraceValue) (journal : List Entry) (found : List OutcomeValue) : Type 0 where
  pub outcome : OutcomeValue
  pub among : IsAmong outcome found
  pub same : key_of outcome ≡ key_of (outcome_of t journal)

-- no item is equal to one behind it
abbrev pub AreDistinct : {A : Type 0} → List A → Type 0
AreDistinct [] = Unit {0}
AreDistinct (x ∷ xs) = (IsAmong x xs → ⊥) × AreDistinct xs

-- ---- How early an outcome differs.
-- the place of the first of so many lines from a place on that doesn't answer as in the first outcome, or the place behind them
abbrev pub difference_from : OutcomeValue → ℕ → ℕ → OutcomeValue → ℕ
difference_from first place zero o = place
difference_from first place (suc more) o = if agrees_at first place o then difference_from first (place + 1) more o else place

abbrev pub difference : OutcomeValue → OutcomeValue → ℕ
difference first o = difference_from first 0 (length first.answers) o

-- no item has a number above that of one behind it
abbrev pub AreRising : {A : Type 0} → (A → ℕ) → List A → Type 0
AreRising f [] = Unit {0}
AreRising {A} f (x ∷ xs) = ((y : A) → IsAmong y xs → f x ≤ f y) × AreRising f xs

-- those behind the first rise by how early they differ from it
abbrev pub RiseByDifference : List OutcomeValue → Type 0
RiseByDifference [] = Unit {0}
RiseByDifference (first ∷ others) = AreRising (difference first) others
