-- What the program's edge answers, by what `top` does.
use Rattle.std.proofs.Common.{◌≡◌, ℕ, List, Option, inl, inr, Result, Ok, Err}
use Rattle.std.specs.Prelude.{◌⊎◌, IfOk, IfErr}
use Rattle.egl_flow.specs.Flow.{HasRisen}
use Rattle.egl_flow.specs.declared.statuses.Status.{Status}
use Rattle.egl_flow.specs.declared.statuses.Status.TheVariants as status
use Rattle.egl_judge.specs.Process.{IsStatusOf}
use Rattle.egl_judge.specs.Requests.{request_of}
use Rattle.egl_judge.specs.Says.{Says}

-- by whether there was memory for the words
pub ran : (left rest : Option (List ℕ)) (read_before read_now : ℕ) (before after : Option (List ℕ)) (write_before write_now : ℕ) (s : Status) (T E : Type 0) (r : Result T E) (items : T → List (List ℕ)) (W : List (List ℕ) → Type 0) → IfOk r (λ ws. W (items ws))
    → IfOk r (λ ws. Says (request_of (items ws)) left rest read_before read_now before after (HasRisen write_before write_now) s) → IfErr r (λ _. s ≡ status.NoMemory)
    → ((words : List (List ℕ)) × W words × IsStatusOf words s) ⊎ (s ≡ status.NoMemory)
ran left rest read_before read_now before after write_before write_now s T E (Ok ws) items W w says none = inl (
  items ws,
  w,
  record {
    left = left;
    rest = rest;
    read_before = read_before;
    read_now = read_now;
    before = before;
    after = after;
    write_before = write_before;
    write_now = write_now;
    says = says;
  },
)
ran left rest read_before read_now before after write_before write_now s T E (Err e) items W w says none = inr none
