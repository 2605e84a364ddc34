use Rattle.egl_explain.proofs.StatusLaws.{answers_some}
use Rattle.egl_explain.proofs.process.run_here.Goals as goal

pub returns : goal.returns
returns g c = answers_some _ _ _ _ _ _ _ _ _ c.answer.result c.answer.ensures
