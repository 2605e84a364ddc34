use Rattle.model_laws.proofs.Steps.HistoryLaws.{IsLegalFrom-append, replay_from-append}
use Rattle.model_laws.proofs.laws.replay_goes_on.Goals as goal

pub returns-clause-state : goal.returns-clause-state
returns-clause-state c = replay_from-append

pub returns-clause-legal : goal.returns-clause-legal
returns-clause-legal c = IsLegalFrom-append
