-- The recording of a run, behind its trace, holds.
use Rattle.std.proofs.Common.{◌≡◌, ℕ, ◌+◌, ◌≤◌, List, ◌++◌, length, drop, ap, ◌∙◌, length-append, Result, Ok}
use Rattle.std.proofs.lemmas.List.{take_at, drop_at}
use Rattle.std.specs.Prelude.{codes}
use Rattle.std.specs.Char.{is_newline}
use Rattle.std.specs.List.{slice_split}
use Rattle.egl_calls.specs.declared.entries.Entry.{Entry as AnEntry}
use Rattle.trace_reader.specs.declared.traces.Defect.{Defect}
use Rattle.trace_reader.specs.Grammar.{trace}
use Rattle.trace_reader.specs.Order.{IsTrace}
use Rattle.trace_reader.specs.Traces.{TraceValue}
use Rattle.trace_model.specs.Follows.{IsPlayOf}
use Rattle.trace_model.specs.Recording.{recording}
use Rattle.trace_model.specs.Serial.{state_behind}
use Rattle.trace_model.specs.Stalled.{IsComplete}
use Rattle.journal_text.proofs.CutLaws.{cut_off}
use Rattle.journal_text.specs.Readings.{recorded}
use Rattle.trace_check.proofs.FrontLaws.{front_other}
use Rattle.trace_check.proofs.RunLaws.{run_holds}
use Rattle.trace_check.proofs.WrittenLaws.{read_back}
use Rattle.trace_check.specs.Recordings.{lines_recorded, IsSized}
use Rattle.egl_cli.specs.declared.inputs.Claim.{Claim}
use Rattle.egl_flow.specs.declared.statuses.Status.TheVariants.{Ok as Fine}
use Rattle.egl_flow.specs.Inputs.{most_input}
use Rattle.egl_cli.specs.Answers.{check_answer, verdict_answer, claim_answer, then_lines, claimed_at, claimed, answer_or_defect}
use Rattle.egl_cli.proofs.SaysLaws.{within}

module _ (front : List ℕ) (t : TraceValue) (journal : List AnEntry) (spelt : trace (front ++ codes "\n") ≡ Ok t) (is : IsTrace t) (p : IsPlayOf t journal) (c : IsComplete t journal) (sized : IsSized t journal) where
  abbrev lines_in_front : ℕ
  lines_in_front = length (slice_split is_newline front)

  abbrev bytes : List ℕ
  bytes = front ++ codes "\n" ++ recording t journal

  abbrev claim : Claim
  claim = record { trace = t; recording = lines_recorded t journal }

  size : length (front ++ codes "\n") ≡ length front + 1
  size = length-append front (codes "\n")

  claimed_so : claimed bytes ≡ Ok claim
  unfolding claimed
  claimed_so =
      ap (claimed_at bytes) (cut_off front journal (state_behind t journal) (front_other front t spelt))
      ∙ ap (λ (b : List ℕ). then_lines (trace b) (recorded (lines_in_front + 1) (drop (length front + 1) bytes))) (take_at (front ++ codes "\n") (recording t journal) (length front + 1) size)
      ∙ ap (λ (b : List ℕ). then_lines (trace (front ++ codes "\n")) (recorded (lines_in_front + 1) b)) (drop_at (front ++ codes "\n") (recording t journal) (length front + 1) size)
      ∙ ap (λ (r : Result TraceValue Defect). then_lines r (recorded (lines_in_front + 1) (recording t journal))) spelt
      ∙ ap (then_lines (Ok t)) (read_back t journal (lines_in_front + 1) is p sized)

  held_so : claim_answer claim ≡ record { status = Fine; text = codes "holds\n" }
  unfolding claim_answer
  held_so = ap verdict_answer (run_holds t is journal p c)

  pub recording_holds : length bytes ≤ most_input → check_answer bytes ≡ record { status = Fine; text = codes "holds\n" }
  unfolding check_answer
  recording_holds short =
      within bytes (answer_or_defect claim_answer (claimed bytes)) short
      ∙ ap (answer_or_defect claim_answer) claimed_so
      ∙ held_so
