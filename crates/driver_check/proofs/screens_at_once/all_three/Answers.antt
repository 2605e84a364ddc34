use denote.Param.Send.{sendable}
use Rattle.std.proofs.Crossing.{crosses}
use Rattle.shared_driver.proofs.Sending.{shared_sync, thread_send}
use Rattle.driver_check.proofs.screens_at_once.all_three.Goals as goal

pub join_mut-requires-send-F : goal.join_mut-requires-send-F
join_mut-requires-send-F g c κs within = let a = thread_send in let b = shared_sync in let d = c.type_bounds.sync-R in search (sendable, crosses) depth 20
