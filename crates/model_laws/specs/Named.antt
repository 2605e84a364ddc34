-- What names an object, in the state's own words.
use Rattle.std.specs.Prelude.{◌≡◌, ◌⊎◌, ℕ, true, Contains, List, Option, Some}
use Rattle.display_table.specs.declared.handles.Handle.{Handle}
use Rattle.egl_model.specs.declared.records.Bound.{Bound}
use Rattle.egl_model.specs.State.{State, object_at, record_of, has_object}
use Rattle.model_laws.specs.Shapes.{slots_in}
use Rattle.model_laws.specs.Slots.{Slot}

abbrev pub Exists : State → ℕ → Type 0
Exists s n = has_object s n ≡ true

-- a valid handle names an object
abbrev pub IsHandled : State → ℕ → Type 0
IsHandled s n = (h : Handle) × (Contains s.handles h) × (h.object ≡ n)

abbrev pub IsBoundTo : ℕ → Option Bound → Type 0
IsBoundTo n o = (b : Bound) × (o ≡ Some b) × (b.object ≡ n)

-- an object is a thread's current context, draw surface or read surface, or the sync that it waits for
abbrev pub IsHeldBy : State → ℕ → ℕ → Type 0
IsHeldBy s t n =
    IsBoundTo n (record_of s t).context ⊎ (IsBoundTo n (record_of s t).draw ⊎ (IsBoundTo n (record_of s t).read ⊎ ((record_of s t).wait ≡ Some n)))

abbrev pub IsHeldByThread : State → ℕ → Type 0
IsHeldByThread s n = (t : ℕ) × IsHeldBy s t n

-- one of these slots has an object
abbrev pub IsInSlot : List Slot → ℕ → Type 0
IsInSlot ls n = (x : Slot) × (Contains ls x) × (x.to ≡ Some n)

-- an object refers to another by one of its slots
abbrev pub IsUsed : State → ℕ → Type 0
IsUsed s n = (m : ℕ) × IsInSlot (slots_in (object_at s m)) n
