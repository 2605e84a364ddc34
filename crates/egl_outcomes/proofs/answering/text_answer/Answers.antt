use Rattle.std.proofs.Common.{◌∙◌, ap}
use Rattle.egl_outcomes.specs.Answers.{fine_answer}
use Rattle.egl_outcomes.proofs.AnswerLaws.{listed_few}
use Rattle.egl_outcomes.proofs.answering.text_answer.Goals as goal

pub returns : goal.returns
returns c = ap fine_answer c.in_ok-text.ensures ∙ listed_few c.args.trace.now c.requires.few
