-- Why a reading was given up.
use Rattle.std.specs.Prelude.{◌≡◌, ℕ, ◌+◌, ◌≤◌, List, length, Option}
use Rattle.egl_flow.specs.Flow.{HasRisen, Gave}
use Rattle.egl_flow.specs.declared.reading.ReadError.{ReadError}
use Rattle.egl_flow.specs.declared.reading.ReadError.TheVariants.{ReadFault, TooLong, NoMemory}

-- the source gave one byte more than the limit, and no further one was taken from it
abbrev pub GavePast : Option (List ℕ) → Option (List ℕ) → ℕ → ℕ → Type 0
GavePast left rest limit taken = (taken ≡ limit + 1) × ((bytes : List ℕ) × (length bytes ≡ taken) × Gave left bytes rest)

-- the source gave bytes within the limit
abbrev pub GaveWithin : Option (List ℕ) → Option (List ℕ) → ℕ → Type 0
GaveWithin left rest limit = (bytes : List ℕ) × (length bytes ≤ limit) × Gave left bytes rest

-- what each refusal tells: of what was left before and is left now, of the limit, and of the counts of faults before and now
abbrev pub HasCause : Option (List ℕ) → Option (List ℕ) → ℕ → ℕ → ℕ → ReadError → Type 0
HasCause left rest limit before now ReadFault = HasRisen before now
HasCause left rest limit before now (TooLong taken) = (now ≡ before) × GavePast left rest limit taken
HasCause left rest limit before now NoMemory = (now ≡ before) × GaveWithin left rest limit
