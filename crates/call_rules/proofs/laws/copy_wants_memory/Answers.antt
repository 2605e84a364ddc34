use Rattle.call_rules.proofs.GlLaws.{copy_wants, wanting_copy}
use Rattle.call_rules.proofs.laws.copy_wants_memory.Goals as goal

pub returns : goal.returns
returns c = λ call f h. (copy_wants call f h, wanting_copy call f h)
