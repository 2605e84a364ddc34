use denote.Param.Send.{sendable}
use Rattle.std.proofs.Crossing.{crosses}
use Rattle.shared_driver.proofs.Sending.{shared_sync, thread_send}
use Rattle.screen_compose.proofs.Sending.{frames_sync, put_end_send}
use Rattle.driver_check.proofs.screens_at_once.compose_and_record.Goals as goal

pub join_mut-requires-send-F : goal.join_mut-requires-send-F
join_mut-requires-send-F g c κs within = let a = thread_send in let b = shared_sync in let d = put_end_send in let e = frames_sync in let f = c.type_bounds.sync-R in search (sendable, crosses) depth 20
