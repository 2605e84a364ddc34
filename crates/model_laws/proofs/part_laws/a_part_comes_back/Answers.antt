use Rattle.model_laws.proofs.Parts.Returns.{census-hide, hide-local, own-hide, part_back}
use Rattle.model_laws.proofs.part_laws.a_part_comes_back.Goals as goal

pub returns-clause-taken : goal.returns-clause-taken
returns-clause-taken c = λ s t out r i. own-hide s t out r.sound.whole r.thread i

pub returns-clause-back : goal.returns-clause-back
returns-clause-back c = λ s t out h. part_back s t out h.whole

pub returns-clause-local : goal.returns-clause-local
returns-clause-local c = hide-local

pub returns-clause-census : goal.returns-clause-census
returns-clause-census c = census-hide
