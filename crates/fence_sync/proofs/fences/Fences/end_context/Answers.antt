use Rattle.std.proofs.Common.{refl}
use Rattle.fence_sync.proofs.FenceLaws.{forgotten}
use Rattle.fence_sync.proofs.fences.Fences.end_context.Goals as goal

pub returns-clause-ended : goal.returns-clause-ended
returns-clause-ended c = rw (← c.self.view_is, forgotten _ _ _ _ _ c.forget.ensures.forgotten, c.forget.ensures.left) refl
