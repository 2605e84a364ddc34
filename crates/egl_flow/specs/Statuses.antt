-- How a program ends, and what it has written then.
use Rattle.std.specs.Prelude.{◌≡◌, ◌⊎◌, ℕ, List, Option}
use Rattle.egl_flow.specs.Flow.{Took, TookFront}
use Rattle.egl_flow.specs.declared.statuses.Status.{Status}
use Rattle.egl_flow.specs.declared.statuses.Status.TheVariants.{Ok, Usage, ReadFault, Malformed, WriteFault, Stalled, NoMemory, TooLong, Differs}

abbrev pub status_number : Status → ℕ
status_number Ok = 0
status_number Usage = 2
status_number ReadFault = 3
status_number Malformed = 4
status_number WriteFault = 5
status_number Stalled = 6
status_number NoMemory = 7
status_number TooLong = 8
status_number Differs = 9

-- a text was written whole with its status, or else a front part of it and the sink failed
abbrev pub Wrote : Option (List ℕ) → List ℕ → Option (List ℕ) → Type 0 → Status → Status → Type 0
Wrote before text after failed meant result = ((result ≡ meant) × Took before text after) ⊎ ((result ≡ WriteFault) × TookFront before text after × failed)
