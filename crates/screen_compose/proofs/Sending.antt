-- What may move to another thread, or be lent to one. A caller that lends these beside a shared driver cites `put_end_send` and `frames_sync`: a search for all of it at once runs out of steps.
use denote.Param.Send.{IsSend, IsSync, sendable}
use Rattle.std.proofs.Crossing.{crosses}
use Rattle.atomic_table.proofs.send_lease.SendLease.TheSendSync as lease
use Rattle.atomic_table.proofs.shared.Seat.TheSendSync as seat
use Rattle.atomic_table.proofs.shared.Shared.TheSendSync as table
use Rattle.shared_driver.proofs.Sending.{bytes_send}
use Rattle.screen_compose.specs.contracts.screens.Frame as frame
use Rattle.screen_compose.specs.contracts.frames.Frames as frames
use Rattle.screen_compose.specs.contracts.frames.PutEnd as put_end

pub frame_send : IsSend frame.the_row
frame_send = let a = bytes_send in search (sendable, crosses) depth 60 fits 20000

pub frames_sync : IsSync frames.the_row
frames_sync = let a = frame_send in search (sendable, crosses, table.the_sync, lease.the_sync) depth 60 fits 20000

pub put_end_send : IsSend put_end.the_row
put_end_send = let a = frame_send in search (sendable, crosses, seat.the_send) depth 60 fits 20000
