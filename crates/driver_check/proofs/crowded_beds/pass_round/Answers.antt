use denote.Param.Send.{sendable}
use Rattle.std.proofs.Crossing.{crosses}
use Rattle.shared_driver.proofs.Sending.{shared_sync, thread_send}
use Rattle.driver_check.proofs.crowded_beds.pass_round.Goals as goal

pub for_each_mut-requires-send-T : goal.for_each_mut-requires-send-T
for_each_mut-requires-send-T g c κs within = let a = thread_send in search (sendable, crosses) depth 20

pub for_each_mut-requires-sync-F : goal.for_each_mut-requires-sync-F
for_each_mut-requires-sync-F g c κs within = let a = shared_sync in let b = c.type_bounds.sync-R in search (sendable, crosses) depth 20
