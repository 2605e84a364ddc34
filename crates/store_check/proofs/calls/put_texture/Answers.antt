use Rattle.std.specs.Prelude.{IsSome}
use Rattle.ref_store.specs.Kept.{at}
use Rattle.store_check.proofs.TwoSlotLaws.{one_of}
use Rattle.store_check.proofs.calls.put_texture.Goals as goal

pub put-requires-clause-stored : goal.put-requires-clause-stored
put-requires-clause-stored g c = one_of (λ t. IsSome (at c.args.store.now.nodes t)) c.args.storage c.expect_below.ensures.stored

pub put-requires-clause-below : goal.put-requires-clause-below
put-requires-clause-below g c = one_of _ c.args.storage c.expect_below.ensures.below
