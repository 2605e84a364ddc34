-- What the program reads, or why it isn't what a command asks for.
use Rattle.std.specs.Prelude.{◌≡◌, ℕ, ◌+◌, ◌≤◌, List, length, Option, Result, Ok as Spelt, Err}
use Rattle.egl_flow.specs.Flow.{AtEnd, Gave, HasRisen}
use Rattle.egl_flow.specs.Causes.{GavePast, GaveWithin}
use Rattle.egl_flow.specs.Inputs.{most_input}
use Rattle.trace_reader.specs.declared.traces.Defect.{Defect}
use Rattle.trace_reader.specs.declared.traces.TraceError.{TraceError}
use Rattle.trace_reader.specs.declared.traces.TraceError.TheVariants.{Malformed as Defective, NoMemory as Unmade}
use Rattle.egl_cli.specs.declared.inputs.InputError.{InputError}
use Rattle.egl_cli.specs.declared.inputs.InputError.TheVariants.{ReadFault, TooLong, Malformed, NoMemory}

-- why bytes that were read don't spell what they should
abbrev pub input_error : TraceError → InputError
input_error (Defective line reason) = Malformed line reason
input_error Unmade = NoMemory

-- all that a source had left was read, within the limit
pub record WasRead (left rest : Option (List ℕ)) (bytes : List ℕ) : Type 0 where
  pub all : Gave left bytes rest
  pub ended : AtEnd rest
  pub within : length bytes ≤ most_input

-- what was read spells this, by what bytes spell, and the source didn't fail
abbrev pub GivesSpelled : {A : Type 0} → (List ℕ → Result A Defect) → Option (List ℕ) → Option (List ℕ) → ℕ → ℕ → A → Type 0
GivesSpelled spelled left rest faults_before faults x = (faults ≡ faults_before) × ((bytes : List ℕ) × WasRead left rest bytes × (spelled bytes ≡ Spelt x))

-- why there is nothing that the bytes spell: of what the source had left before and has left now, and of its faults before and now
abbrev pub GivesNone : {A : Type 0} → (List ℕ → Result A Defect) → Option (List ℕ) → Option (List ℕ) → ℕ → ℕ → InputError → Type 0
GivesNone spelled left rest faults_before faults ReadFault = HasRisen faults_before faults
GivesNone spelled left rest faults_before faults TooLong = GavePast left rest most_input (most_input + 1)
GivesNone spelled left rest faults_before faults (Malformed line reason) = (bytes : List ℕ) × WasRead left rest bytes × (spelled bytes ≡ Err (record { line = line; reason = reason }))
GivesNone spelled left rest faults_before faults NoMemory = (faults ≡ faults_before) × GaveWithin left rest most_input

-- the bytes themselves
abbrev pub GivesBytes : Option (List ℕ) → Option (List ℕ) → ℕ → ℕ → List ℕ → Type 0
GivesBytes left rest faults_before faults bytes = (faults ≡ faults_before) × WasRead left rest bytes

-- why they weren't read, which is never a defect
abbrev pub GivesNoBytes : Option (List ℕ) → Option (List ℕ) → ℕ → ℕ → InputError → Type 0
GivesNoBytes left rest faults_before faults ReadFault = HasRisen faults_before faults
GivesNoBytes left rest faults_before faults TooLong = GavePast left rest most_input (most_input + 1)
GivesNoBytes left rest faults_before faults (Malformed line reason) = ⊥
GivesNoBytes left rest faults_before faults NoMemory = (faults ≡ faults_before) × GaveWithin left rest most_input
