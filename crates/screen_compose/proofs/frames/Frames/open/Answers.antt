use Rattle.std.proofs.Common.{rules}
use Rattle.screen_compose.proofs.QueueLaws.{begins, splits}
use Rattle.screen_compose.proofs.frames.Frames.open.Goals as goal

pub ruled-requires-clause-rule : goal.ruled-requires-clause-rule
ruled-requires-clause-rule c = begins

pub another-take-requires-clause-rule : goal.another-take-requires-clause-rule
another-take-requires-clause-rule c = splits _ _ (search rules) (search rules)
