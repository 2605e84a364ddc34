use Rattle.egl_outcomes.proofs.RunLaws.{answers_some}
use Rattle.egl_outcomes.proofs.process.run_here.Goals as goal

pub returns : goal.returns
returns g c = answers_some _ _ _ _ _ _ _ _ c.answer.result c.answer.ensures
