use Rattle.call_rules.proofs.GlLaws.{data_wants, wanting_data}
use Rattle.call_rules.proofs.laws.data_wants_memory.Goals as goal

pub returns : goal.returns
returns c = λ call f h. (data_wants call f h, wanting_data call f h)
