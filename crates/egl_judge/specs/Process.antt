-- What the program's edge answers.
use Rattle.std.specs.Prelude.{ℕ, List, Option}
use Rattle.egl_flow.specs.Flow.{HasRisen}
use Rattle.egl_flow.specs.declared.statuses.Status.{Status}
use Rattle.egl_judge.specs.Requests.{request_of}
use Rattle.egl_judge.specs.Says.{Says}

-- what `top` promises of these words, for a source and a sink of which nothing else is known
pub record IsStatusOf (words : List (List ℕ)) (status : Status) : Type 0 where
  pub left : Option (List ℕ)
  pub rest : Option (List ℕ)
  pub read_before : ℕ
  pub read_now : ℕ
  pub before : Option (List ℕ)
  pub after : Option (List ℕ)
  pub write_before : ℕ
  pub write_now : ℕ
  pub says : Says (request_of words) left rest read_before read_now before after (HasRisen write_before write_now) status
