use Rattle.std.proofs.Common.{arith}
use Rattle.ref_store.proofs.CountLaws.{times_none}
use Rattle.store_check.proofs.calls.put_storage.Goals as goal

pub put-requires-clause-stored : goal.put-requires-clause-stored
put-requires-clause-stored g c = λ n h. absurd (omega (arith, times_none n))

pub put-requires-clause-below : goal.put-requires-clause-below
put-requires-clause-below g c = λ n h. absurd (omega (arith, times_none n))
