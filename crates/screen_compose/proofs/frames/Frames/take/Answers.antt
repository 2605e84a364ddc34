use Rattle.screen_compose.proofs.QueueLaws.{first_taken, takes}
use Rattle.screen_compose.proofs.frames.Frames.take.Goals as goal

pub pop_as-requires-clause-rule : goal.pop_as-requires-clause-rule
pop_as-requires-clause-rule g c = (takes _ _ c.requires.1, first_taken _ _ c.requires.1)
