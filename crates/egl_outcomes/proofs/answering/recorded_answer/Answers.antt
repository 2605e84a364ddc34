use Rattle.std.proofs.Common.{◌∙◌}
use Rattle.egl_outcomes.proofs.AnswerLaws.{placed_many}
use Rattle.egl_outcomes.proofs.answering.recorded_answer.Goals as goal

pub returns-in_ok-answer-in-None : goal.returns-in_ok-answer-in-None
returns-in_ok-answer-in-None c =
    let many = rw (c.in-None.is) at c.in_ok-listing.ensures in
    c.in_ok-answer-in-None.ensures ∙ placed_many c.args.trace.now c.args.recording.now many
