-- What a program writes of its input, and the status that it ends with.
use Rattle.std.specs.Prelude.{◌≡◌, ◌⊎◌, ℕ, ◌≤◌, List, [], length, Option}
use Rattle.egl_flow.specs.Causes.{HasCause}
use Rattle.egl_flow.specs.Flow.{AtEnd, Gave, Took}
use Rattle.egl_flow.specs.Inputs.{most_input, read_fault_text, too_long_text}
use Rattle.egl_flow.specs.Statuses.{Wrote}
use Rattle.egl_flow.specs.declared.reading.ReadError.{ReadError}
use Rattle.egl_flow.specs.declared.reading.ReadError.TheVariants.{ReadFault as Unread, TooLong as Overlong, NoMemory as Unmade}
use Rattle.egl_flow.specs.declared.responding.Answer.{Answer}
use Rattle.egl_flow.specs.declared.statuses.Status.{Status}
use Rattle.egl_flow.specs.declared.statuses.Status.TheVariants.{ReadFault, NoMemory, TooLong}

-- nothing was written, since memory ran out
abbrev pub WroteNothing : Option (List ℕ) → Option (List ℕ) → Status → Type 0
WroteNothing before after result = (result ≡ NoMemory) × Took before [] after

-- a right answer was written with its status, or else a front part of it and the sink failed; or memory ran out
abbrev pub WroteAnswer : (Answer → Type 0) → Option (List ℕ) → Option (List ℕ) → Type 0 → Status → Type 0
WroteAnswer right before after failed result = ((a : Answer) × right a × Wrote before a.text after failed a.status result) ⊎ WroteNothing before after result

-- why there is nothing to answer was written
abbrev pub WroteCause : ReadError → Option (List ℕ) → Option (List ℕ) → Type 0 → Status → Type 0
WroteCause Unread before after failed result = Wrote before read_fault_text after failed ReadFault result
WroteCause (Overlong taken) before after failed result = Wrote before too_long_text after failed TooLong result
WroteCause Unmade before after failed result = WroteNothing before after result

-- all that a source had left was read, within the limit
pub record WasRead (left rest : Option (List ℕ)) (bytes : List ℕ) : Type 0 where
  pub all : Gave left bytes rest
  pub ended : AtEnd rest
  pub within : length bytes ≤ most_input

-- all was read and answered rightly, without a fault; or reading had a cause to end, which was told. By which answers to bytes are right, what the source had left and has left, its faults before and now, and what the sink had taken and has taken
abbrev pub Responds : (List ℕ → Answer → Type 0) → Option (List ℕ) → Option (List ℕ) → ℕ → ℕ → Option (List ℕ) → Option (List ℕ) → Type 0 → Status → Type 0
Responds right left rest faults_before faults before after failed result =
    ((faults ≡ faults_before) × ((bytes : List ℕ) × WasRead left rest bytes × WroteAnswer (right bytes) before after failed result))
    ⊎ ((e : ReadError) × HasCause left rest most_input faults_before faults e × WroteCause e before after failed result)
