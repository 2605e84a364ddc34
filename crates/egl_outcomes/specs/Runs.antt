-- The program's status.
use Rattle.std.specs.Prelude.{◌≡◌, ◌⊎◌, ℕ, List, Option}
use Rattle.egl_flow.specs.Flow.{HasRisen}
use Rattle.egl_flow.specs.Responses.{Responds}
use Rattle.egl_flow.specs.declared.responding.Answer.{Answer}
use Rattle.egl_flow.specs.declared.statuses.Status.{Status}
use Rattle.egl_flow.specs.declared.statuses.Status.TheVariants.{Usage, WriteFault, NoMemory}
use Rattle.egl_outcomes.specs.Answers.{answer}

-- what is said to bytes
abbrev pub IsAnswer : List ℕ → Answer → Type 0
IsAnswer bytes a = a ≡ answer bytes

-- a status that `respond` promises for a source and a sink of which nothing else is known
pub record IsSomeAnswer (status : Status) : Type 0 where
  pub left : Option (List ℕ)
  pub rest : Option (List ℕ)
  pub read_before : ℕ
  pub read_now : ℕ
  pub before : Option (List ℕ)
  pub after : Option (List ℕ)
  pub write_before : ℕ
  pub write_now : ℕ
  pub answers : Responds IsAnswer left rest read_before read_now before after (HasRisen write_before write_now) status

-- the program's status: that, or how it is used was told or couldn't be, or there was no memory for its words
abbrev pub IsRunStatus : Status → Type 0
IsRunStatus status = IsSomeAnswer status ⊎ ((status ≡ Usage) ⊎ ((status ≡ WriteFault) ⊎ (status ≡ NoMemory)))
