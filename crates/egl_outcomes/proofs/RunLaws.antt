-- The program's status.
use Rattle.std.proofs.Common.{ℕ, List, inl, inr, Option}
use Rattle.egl_flow.specs.Flow.{HasRisen}
use Rattle.egl_flow.specs.Responses.{Responds}
use Rattle.egl_flow.specs.Statuses.{Wrote}
use Rattle.egl_flow.specs.declared.statuses.Status.{Status}
use Rattle.egl_flow.specs.declared.statuses.Status.TheVariants.{Usage}
use Rattle.egl_outcomes.specs.Runs.{IsAnswer, IsRunStatus, IsSomeAnswer}

pub answers_some : (left rest : Option (List ℕ)) (read_before read_now : ℕ) (before after : Option (List ℕ)) (write_before write_now : ℕ) (status : Status) → Responds IsAnswer left rest read_before read_now before after (HasRisen write_before write_now) status → IsSomeAnswer status
answers_some left rest read_before read_now before after write_before write_now status h = record {
  left = left;
  rest = rest;
  read_before = read_before;
  read_now = read_now;
  before = before;
  after = after;
  write_before = write_before;
  write_now = write_now;
  answers = h;
}

pub used : (before after : Option (List ℕ)) (failed : Type 0) (text : List ℕ) (result : Status) → Wrote before text after failed Usage result → IsRunStatus result
used before after failed text result (inl written) = inr (inl written.0)
used before after failed text result (inr unwritten) = inr (inr (inl unwritten.0))
