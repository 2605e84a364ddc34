use Rattle.std.proofs.Common.{refl}
use Rattle.fence_sync.proofs.FenceLaws.{gone}
use Rattle.fence_sync.proofs.fences.Fences.destroy.Goals as goal

pub returns : goal.returns
returns c = rw (← c.self.view_is, gone _ _ _ _ _ c.take.ensures) refl
