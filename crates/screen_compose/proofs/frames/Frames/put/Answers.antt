use Rattle.screen_compose.proofs.QueueLaws.{last_put, puts}
use Rattle.screen_compose.proofs.frames.Frames.put.Goals as goal

pub push_as-requires-clause-rule : goal.push_as-requires-clause-rule
push_as-requires-clause-rule g c = (puts _ _ _ _ c.requires.1, last_put _ _ c.requires.1)
