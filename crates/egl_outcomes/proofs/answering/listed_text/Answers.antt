use Rattle.std.proofs.Common.{◌∙◌}
use Rattle.egl_outcomes.proofs.AnswerLaws.{text_listed}
use Rattle.egl_outcomes.proofs.answering.listed_text.Goals as goal

pub returns : goal.returns
returns c =
    let h = rw (c.lines.ensures.lines, c.as_slice.ensures.value) at c.in_ok-text.ensures in
    h ∙ text_listed c.args.trace.now _ _ c.requires.outcomes c.requires.histories
