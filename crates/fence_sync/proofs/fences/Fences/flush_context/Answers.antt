use Rattle.std.proofs.Common.{refl}
use Rattle.std.specs.Ordering.{nat_cmp}
use Rattle.std.specs.BTreeMap.{get}
use Rattle.fence_sync.proofs.FenceLaws.{raised}
use Rattle.fence_sync.proofs.fences.Fences.flush_context.Goals as goal

pub returns : goal.returns
returns c = rw (← c.self.view_is, raised _ _ _ (get nat_cmp c.self.inside.contexts) _ c.raise.ensures.raised, c.raise.ensures.same_keys) refl
