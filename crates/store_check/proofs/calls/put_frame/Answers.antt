use Rattle.std.specs.Prelude.{IsSome}
use Rattle.ref_store.specs.Kept.{at}
use Rattle.store_check.proofs.TwoSlotLaws.{both_of}
use Rattle.store_check.proofs.calls.put_frame.Goals as goal

pub put-requires-clause-stored : goal.put-requires-clause-stored
put-requires-clause-stored g c = both_of (λ t. IsSome (at c.args.store.now.nodes t)) c.args.first c.args.second c.expect_below.ensures.stored c.expect_below-2.ensures.stored

pub put-requires-clause-below : goal.put-requires-clause-below
put-requires-clause-below g c = both_of _ c.args.first c.args.second c.expect_below.ensures.below c.expect_below-2.ensures.below
