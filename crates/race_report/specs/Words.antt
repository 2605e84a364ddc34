-- What leads to an entry of a journal, in words.
use Rattle.std.specs.Prelude.{◌≡◌, ℕ, ◌<◌, ◌⊎◌, List, slice_get, find, Some}
use Rattle.std.specs.List.{Contains}
use Rattle.egl_calls.specs.declared.entries.Entry.{Entry}
use Rattle.trace_reader.specs.declared.traces.Line.{Line}
use Rattle.trace_reader.specs.declared.traces.Reference.{Reference}
use Rattle.race_report.specs.Leading.{variable_place, is_played_by, uses_of, awaited_place, maker_place, waited_by}

-- the line of an entry uses a variable whose answer stands at this place
pub record UsesAnswer (lines : List Line) (journal : List Entry) (i : ℕ) (e : Entry) : Type 0 where
  pub reference : Reference
  pub used : Contains (uses_of (find (is_played_by e) lines)) reference
  pub answer : variable_place lines journal reference.variable ≡ Some i

-- why a place leads to a later entry: it is of the same thread; it is the answer of a variable that the entry's line uses; it is the first post of the number that the entry awaits; or it made the sync behind whose signal the entry stands
abbrev pub LeadsBy : List Line → List Entry → ℕ → Entry → Entry → Type 0
LeadsBy lines journal i earlier later =
    (earlier.thread ≡ later.thread) ⊎ (UsesAnswer lines journal i later ⊎ ((awaited_place journal later.call ≡ Some i) ⊎ (maker_place journal (waited_by journal later later.call.kind) ≡ Some i)))

pub record LeadsIn (lines : List Line) (journal : List Entry) (i j : ℕ) : Type 0 where
  pub before : i < j
  pub earlier : Entry
  pub there : slice_get journal i ≡ Some earlier
  pub later : Entry
  pub here : slice_get journal j ≡ Some later
  pub way : LeadsBy lines journal i earlier later
