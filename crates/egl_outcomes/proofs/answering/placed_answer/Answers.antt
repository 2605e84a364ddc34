use Rattle.std.proofs.Common.{◌++◌, ◌∙◌, ℕ, List, ap}
use Rattle.egl_outcomes.specs.Answers.{recorded_text}
use Rattle.egl_outcomes.proofs.AnswerLaws.{placed_few}
use Rattle.egl_outcomes.proofs.answering.placed_answer.Goals as goal

pub returns : goal.returns
returns c =
    let place = c.in_ok-place.place in
    placed_few c.args.trace.now c.args.recording.now place _ _ c.in_ok-place.ensures
    (c.in_ok-put_recorded.ensures ∙ ap (λ (x : List ℕ). x ++ recorded_text place) c.in_ok-text.ensures)
    c.recorded_status.ensures c.requires.few
