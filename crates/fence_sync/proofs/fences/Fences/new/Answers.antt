use Rattle.std.proofs.Common.{refl}
use Rattle.fence_sync.proofs.FenceLaws.{none_made}
use Rattle.fence_sync.proofs.fences.Fences.new.Goals as goal

pub returns : goal.returns
returns c = rw (none_made _ _, c.new-2.ensures.empty, c.new-3.ensures.empty) refl
