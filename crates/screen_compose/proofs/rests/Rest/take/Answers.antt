use Rattle.std.proofs.Common.{rules}
use Rattle.screen_compose.proofs.QueueLaws.{left_over, takes}
use Rattle.screen_compose.proofs.rests.Rest.take.Goals as goal

pub pop_as-frame-requires-clause-rule : goal.pop_as-frame-requires-clause-rule
pop_as-frame-requires-clause-rule g c = (takes _ _ (search rules), left_over _ _ (search rules) (search rules))

pub learn_as-requires-clause-rule : goal.learn_as-requires-clause-rule
learn_as-requires-clause-rule g c = left_over _ _ (search rules) (search rules)
