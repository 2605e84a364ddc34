use Rattle.call_rules.proofs.GlLaws.{storage_wants, wanting_storage}
use Rattle.call_rules.proofs.laws.storage_wants_memory.Goals as goal

pub returns : goal.returns
returns c = λ call f h. (storage_wants call f h, wanting_storage call f h)
