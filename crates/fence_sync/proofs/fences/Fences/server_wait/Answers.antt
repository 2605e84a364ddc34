use Rattle.std.proofs.Common.{refl}
use Rattle.fence_sync.proofs.FenceLaws.{marked}
use Rattle.fence_sync.proofs.fences.Fences.server_wait.Goals as goal

pub returns : goal.returns
returns c = rw (← c.self.view_is, marked _ _ _ _ _ c.mark.ensures) refl
