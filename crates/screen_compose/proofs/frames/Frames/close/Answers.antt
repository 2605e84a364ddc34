use Rattle.std.proofs.Common.{rules}
use Rattle.screen_compose.proofs.QueueLaws.{joins, left_over}
use Rattle.screen_compose.proofs.frames.Frames.close.Goals as goal

pub absorb-requires-clause-rule : goal.absorb-requires-clause-rule
absorb-requires-clause-rule c = joins _ _ _ _ c.requires.put.1 c.requires.take.1

pub learn_as-requires-clause-rule : goal.learn_as-requires-clause-rule
learn_as-requires-clause-rule c = left_over _ _ (search rules) (search rules)
