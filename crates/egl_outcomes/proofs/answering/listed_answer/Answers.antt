use Rattle.std.proofs.Common.{◌∙◌}
use Rattle.egl_outcomes.proofs.AnswerLaws.{listed_many}
use Rattle.egl_outcomes.proofs.answering.listed_answer.Goals as goal

pub returns-in_ok-answer-in-None : goal.returns-in_ok-answer-in-None
returns-in_ok-answer-in-None c =
    let many = rw (c.in-None.is) at c.in_ok-listing.ensures in
    c.in_ok-answer-in-None.ensures ∙ listed_many c.args.trace.now many
