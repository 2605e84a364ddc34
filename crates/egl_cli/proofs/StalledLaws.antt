-- The answer to a run that came to its end, and to one that stalled.
use Rattle.std.proofs.Common.{◌≡◌, ℕ, Bool, true, false, List, ◌++◌, sym, ap, ◌∙◌}
use Rattle.std.specs.Prelude.{not, ◌&&◌}
use Rattle.std.specs.List.{list_all}
use Rattle.egl_calls.proofs.Truths.{and_false}
use Rattle.egl_calls.specs.declared.entries.Entry.{Entry}
use Rattle.egl_model.specs.State.{State}
use Rattle.trace_reader.specs.Traces.{TraceValue}
use Rattle.trace_model.specs.Serial.{state_behind, serial}
use Rattle.trace_model.specs.Stalled.{threads_of, is_at_rest, is_stalled, IsComplete}
use Rattle.trace_model.specs.Recording.{recording}
use Rattle.egl_cli.specs.StalledLines.{stalled_lines}
use Rattle.egl_flow.specs.declared.statuses.Status.TheVariants.{Ok as Fine, Stalled}
use Rattle.egl_cli.specs.Answers.{journal_answer, run_answer}

-- what is complete isn't stalled
pub never_stalls : (t : TraceValue) (journal : List Entry) (s : State) → IsComplete t journal → is_stalled t journal s ≡ false
unfolding is_stalled
never_stalls t journal s c =
    let all : Bool = list_all (is_at_rest t.lines journal s) (threads_of t) in
    ap (λ (b : Bool). all && not b) c ∙ and_false all

pub answer_by : (t : TraceValue) (b : Bool) → is_stalled t (serial t) (state_behind t (serial t)) ≡ b → run_answer t ≡ journal_answer false t (serial t) b
unfolding run_answer
answer_by t b h = ap (journal_answer false t (serial t)) h

-- what is said of a run whose driver is in this state
module _ (t : TraceValue) (s : State) (stalled : Bool) (text : List ℕ) (same : s ≡ state_behind t (serial t)) (h : stalled ≡ is_stalled t (serial t) s) where
  is_by : (b : Bool) → stalled ≡ b → is_stalled t (serial t) (state_behind t (serial t)) ≡ b
  is_by b e = ap (is_stalled t (serial t)) (sym same) ∙ sym h ∙ e

  pub run_ended : stalled ≡ false → text ≡ recording t (serial t) → record { status = Fine; text = text } ≡ run_answer t
  run_ended e p = ap (λ (x : List ℕ). record { status = Fine; text = x }) p ∙ sym (answer_by t false (is_by false e))

  pub run_stalled : stalled ≡ true → text ≡ recording t (serial t) ++ stalled_lines t (serial t) → record { status = Stalled; text = text } ≡ run_answer t
  run_stalled e p = ap (λ (x : List ℕ). record { status = Stalled; text = x }) p ∙ sym (answer_by t true (is_by true e))
