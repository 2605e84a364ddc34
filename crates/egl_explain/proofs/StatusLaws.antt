-- The status of a run, and of what is told.
use Rattle.std.proofs.Common.{◌≡◌, ℕ, Bool, true, false, not, ◌&&◌, List, refl, sym, ap, ◌∙◌, inl, inr, Option, Result, Ok as Answered, Err}
use Rattle.std.specs.Prelude.{IfOk}
use Rattle.std.specs.List.{list_all}
use Rattle.egl_flow.specs.Flow.{HasRisen}
use Rattle.egl_flow.specs.Responses.{Responds}
use Rattle.egl_flow.specs.Statuses.{Wrote}
use Rattle.egl_calls.specs.declared.memory.NoMemory.{NoMemory}
use Rattle.egl_flow.specs.declared.responding.Answer.{Answer}
use Rattle.egl_flow.specs.declared.statuses.Status.{Status}
use Rattle.egl_flow.specs.declared.statuses.Status.TheVariants.{Ok, Stalled, Usage}
use Rattle.trace_reader.specs.Traces.{TraceValue}
use Rattle.trace_model.specs.Serial.{serial, state_behind}
use Rattle.trace_model.specs.Stalled.{IsComplete, IsStalled, is_at_rest, is_stalled, threads_of}
use Rattle.egl_explain.specs.Answers.{IsRunStatus, IsSomeAnswer, IsTold}
use Rattle.egl_explain.specs.Statuses.{run_status, stalled_status, status_of}
use Rattle.egl_explain.specs.Formats.{IsOf}
use Rattle.egl_explain.specs.declared.pages.Format.{Format}

and_false : (b : Bool) → (b && false) ≡ false
and_false true = refl
and_false false = refl

complete_is_over : (t : TraceValue) → IsComplete t (serial t) → is_stalled t (serial t) (state_behind t (serial t)) ≡ false
unfolding is_stalled
complete_is_over t h =
    let rest = list_all (is_at_rest t.lines (serial t) (state_behind t (serial t))) (threads_of t) in
    ap (λ (b : Bool). rest && not b) h ∙ and_false rest

pub ended_status : (t : TraceValue) → IsComplete t (serial t) → Ok ≡ run_status t
unfolding run_status
ended_status t h = ap stalled_status (sym (complete_is_over t h))

pub stalled_run_status : (t : TraceValue) → IsStalled t (serial t) → Stalled ≡ run_status t
unfolding run_status
stalled_run_status t h = ap stalled_status (sym h)

-- an answer by both clauses of `explain`
pub is_told : (format : Format) (bytes : List ℕ) (r : Result Answer NoMemory) → IfOk r (λ a. a.status ≡ status_of bytes) → IfOk r (λ a. IsOf format a.text) → IfOk r (IsTold format bytes)
is_told format bytes (Answered a) status text = record { status = status; text = text }
is_told format bytes (Err e) status text = tt

-- one answer of those
pub answers_some : (format : Format) (left rest : Option (List ℕ)) (read_before read_now : ℕ) (before after : Option (List ℕ)) (write_before write_now : ℕ) (status : Status) → Responds (IsTold format) left rest read_before read_now before after (HasRisen write_before write_now) status → IsSomeAnswer status
answers_some format left rest read_before read_now before after write_before write_now status h = record {
  format = format;
  left = left;
  rest = rest;
  read_before = read_before;
  read_now = read_now;
  before = before;
  after = after;
  write_before = write_before;
  write_now = write_now;
  answers = h;
}

pub used : (before after : Option (List ℕ)) (failed : Type 0) (text : List ℕ) (result : Status) → Wrote before text after failed Usage result → IsRunStatus result
used before after failed text result (inl written) = inr (inl written.0)
used before after failed text result (inr unwritten) = inr (inr (inl unwritten.0))
