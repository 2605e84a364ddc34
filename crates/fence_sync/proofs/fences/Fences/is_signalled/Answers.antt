use Rattle.std.proofs.Common.{sym, ◌∙◌}
use Rattle.fence_sync.proofs.FenceLaws.{signalled_found}
use Rattle.fence_sync.proofs.fences.Fences.is_signalled.Goals as goal

pub returns : goal.returns
returns c = rw (← c.self.view_is) (c.is_signalled_in.ensures ∙ sym (signalled_found c.args.sync _ _ _ c.self.invariant))
