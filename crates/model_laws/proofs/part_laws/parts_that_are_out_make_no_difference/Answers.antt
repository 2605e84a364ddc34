use Rattle.model_laws.proofs.Steps.StepPut.{hide-step}
use Rattle.model_laws.proofs.part_laws.parts_that_are_out_make_no_difference.Goals as goal

pub returns : goal.returns
returns c = λ out s t c h i. hide-step out s t c h.whole i
