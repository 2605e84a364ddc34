use Rattle.history_laws.proofs.MemoryLaws.{four_alone}
use Rattle.history_laws.proofs.memory.four_calls_alone_want_bytes.Goals as goal

pub returns : goal.returns
returns c = four_alone
