-- A judgement as a value.
use Rattle.std.specs.Prelude.{ℕ, List, Option}
use Rattle.driver_judge.specs.declared.judgements.CutCall.{CutCall}
use Rattle.driver_judge.specs.declared.judgements.Note.{Note}

-- how many lines were judged, how many of them agree, and how many of these with a value that is the driver's own; what is found of each other line; and the call that was under way at the end
pub record JudgementValue : Type 0 where
  pub lines : ℕ
  pub agreed : ℕ
  pub own : ℕ
  pub notes : List Note
  pub cut : Option CutCall
