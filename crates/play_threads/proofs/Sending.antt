-- What a worker takes along to another thread, and what is lent to it.
use denote.Builtin.{i64}
use denote.Param.Send.{IsSend, IsSync, recorded_send, recorded_sync, sendable, struct_send, struct_sync, view_sync}
use denote.Struct.Declared as declared
use Rattle.std.proofs.Crossing.{crosses}
use Rattle.std.specs.contracts.option.Option as option
use Rattle.egl_calls.specs.contracts.lists.List as list
use Rattle.egl_calls.specs.contracts.payloads.Payload as payload
use Rattle.egl_calls.specs.contracts.kinds.Kind as kind
use Rattle.egl_calls.specs.contracts.calls.Call as call
use Rattle.egl_calls.specs.contracts.replies.Reply as reply
use Rattle.egl_calls.specs.contracts.calls.Call.TheInside as inside
use Rattle.surface_store.specs.contracts.windows.WindowSpec as window
use Rattle.trace_reader.specs.contracts.traces.Reference as reference
use Rattle.trace_reader.specs.contracts.traces.Line as line
use Rattle.trace_reader.specs.contracts.line_calls.Packed as packed
use Rattle.trace_reader.specs.contracts.line_calls.LineCall as line_call
use Rattle.trace_reader.specs.contracts.line_calls.LineCall.TheInside as call_inside
use Rattle.trace_reader.specs.contracts.line_uses.Kept as kept
use Rattle.trace_reader.specs.contracts.line_uses.LineUses as line_uses
use Rattle.trace_reader.specs.contracts.line_uses.LineUses.TheInside as uses_inside
use Rattle.trace_reader.specs.contracts.traces.Trace as trace
use Rattle.trace_session.specs.contracts.chains.Chains as chains
use Rattle.atomic_table.proofs.shared.Seat.TheSendSync as seat
use Rattle.once_cell.proofs.race.once_box.OnceBox.TheSendSync as once
use Rattle.shared_driver.specs.contracts.tokens.Thread as thread
use Rattle.shared_driver.proofs.Sending.{boxed_send, bytes_send, bytes_sync, entry_send, part_send, reply_send}
use Rattle.play_threads.specs.contracts.starts.Start as start
use Rattle.play_threads.specs.contracts.workers.Worker as worker

pub numbers_sync : IsSync (list.the_row i64)
numbers_sync = search (sendable, crosses) depth 60

pub kind_sync : IsSync (kind.the_field).row
kind_sync = search (sendable, crosses) depth 60 fits 20000

pub payload_sync : IsSync payload.the_row
payload_sync = let a = bytes_send in let b = bytes_sync in search (sendable, crosses) depth 60 fits 20000

pub some_payload_sync : IsSync (option.the_field payload.the_row).row
some_payload_sync = let a = payload_sync in search (sendable, crosses) depth 60 fits 20000

pub inside_sync : IsSync inside.the_row
inside_sync = recorded_sync _ inside.the_type.D inside.the_type.to inside.the_type.to_one (struct_sync (declared.shape inside.the_type) (kind_sync, (search sendable depth 20, (numbers_sync, (some_payload_sync, tt)))))

pub call_sync : IsSync call.the_row
call_sync = view_sync _ _ _ _ _ inside_sync

pub reference_sync : IsSync (reference.the_field).row
reference_sync = search (sendable, crosses) depth 60 fits 20000

pub uses_sync : IsSync (list.the_row reference.the_row)
uses_sync = search (sendable, crosses) depth 60 fits 20000

-- the call of a line, and its references
pub packed_sync : IsSync (packed.the_field).row
packed_sync = let a = kind_sync in let b = numbers_sync in let d = payload_sync in search (sendable, crosses) depth 60 fits 40000

pub packed_inside_sync : IsSync call_inside.the_row
packed_inside_sync = recorded_sync _ call_inside.the_type.D call_inside.the_type.to call_inside.the_type.to_one (struct_sync (declared.shape call_inside.the_type) (packed_sync, tt))

pub line_call_sync : IsSync line_call.the_row
line_call_sync = view_sync _ _ _ _ _ packed_inside_sync

pub kept_sync : IsSync (kept.the_field).row
kept_sync = let a = reference_sync in let b = uses_sync in search (sendable, crosses) depth 60 fits 40000

pub kept_inside_sync : IsSync uses_inside.the_row
kept_inside_sync = recorded_sync _ uses_inside.the_type.D uses_inside.the_type.to uses_inside.the_type.to_one (struct_sync (declared.shape uses_inside.the_type) (kept_sync, tt))

pub line_uses_sync : IsSync line_uses.the_row
line_uses_sync = view_sync _ _ _ _ _ kept_inside_sync

pub line_sync : IsSync line.the_row
line_sync = let a = line_call_sync in let b = line_uses_sync in search (sendable, crosses) depth 60 fits 20000

pub window_sync : IsSync window.the_row
window_sync = search (sendable, crosses) depth 60 fits 20000

-- a trace may be lent to another thread
pub trace_sync : IsSync trace.the_row
trace_sync = let a = line_sync in let b = window_sync in search (sendable, crosses) depth 60 fits 20000

pub reply_sync : IsSync reply.the_row
reply_sync = let a = numbers_sync in let b = bytes_sync in search (sendable, crosses) depth 60

-- so may what was found of its lines, with the lists of its answers
pub chains_sync : IsSync chains.the_row
chains_sync = let a = reply_send in let b = reply_sync in search (sendable, crosses, once.the_sync) depth 60 fits 20000

-- and the count of those that have begun
pub start_sync : IsSync start.the_row
start_sync = search (sendable, crosses) depth 60 fits 20000

-- and a worker, with its token, may move there
pub token_send : IsSend (thread.the_field).row
token_send = let a = boxed_send in let b = part_send in let d = entry_send in search (sendable, crosses, seat.the_send) depth 60 fits 40000

pub worker_send : IsSend worker.the_row
worker_send = recorded_send _ worker.the_type.D worker.the_type.to worker.the_type.to_one (struct_send (declared.shape worker.the_type) (token_send, (search sendable depth 20, tt)))
