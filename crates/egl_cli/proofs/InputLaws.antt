-- Why there is nothing that the bytes of a source spell.
use Rattle.std.proofs.Common.{◌≡◌, ℕ, List, sym, subst, Option, Result}
use Rattle.trace_reader.specs.declared.traces.Defect.{Defect}
use Rattle.trace_reader.specs.declared.traces.TraceError.{TraceError}
use Rattle.trace_reader.specs.declared.traces.TraceError.TheVariants.{Malformed, NoMemory}
use Rattle.trace_reader.specs.Reading.{FailsWith}
use Rattle.egl_cli.specs.declared.inputs.InputError.{InputError}
use Rattle.egl_cli.specs.declared.inputs.InputError.TheVariants.{ReadFault, TooLong, Malformed as Defective, NoMemory as Unmade}
use Rattle.egl_cli.specs.Inputs.{GivesNoBytes, GivesNone, input_error, WasRead}

module _ {A : Type 0} (spelled : List ℕ → Result A Defect) (left rest : Option (List ℕ)) (faults_before faults : ℕ) where
  -- they weren't read
  pub no_bytes : (e : InputError) → GivesNoBytes left rest faults_before faults e → GivesNone spelled left rest faults_before faults e
  no_bytes ReadFault g = g
  no_bytes TooLong g = g
  no_bytes (Defective line reason) g = absurd g
  no_bytes Unmade g = g

  -- they were read, and spell nothing
  fails_by : (bytes : List ℕ) (error : TraceError) → WasRead left rest bytes → faults ≡ faults_before → FailsWith error (spelled bytes) → GivesNone spelled left rest faults_before faults (input_error error)
  fails_by bytes (Malformed line reason) r steady fails = (bytes, r, fails)
  fails_by bytes NoMemory r steady fails = (steady, (bytes, r.within, r.all))

  pub spells_none : (bytes : List ℕ) (error : TraceError) (e : InputError) → e ≡ input_error error → WasRead left rest bytes → faults ≡ faults_before → FailsWith error (spelled bytes) → GivesNone spelled left rest faults_before faults e
  spells_none bytes error e is r steady fails = subst (λ (x : InputError). GivesNone spelled left rest faults_before faults x) (sym is) (fails_by bytes error r steady fails)
