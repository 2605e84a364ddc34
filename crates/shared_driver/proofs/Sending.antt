-- What may move to another thread, or be lent to one. A caller that lends tokens to threads cites `thread_send` and `shared_sync`:
-- a search that goes down through the whole driver runs out of steps.
use denote.Builtin.{i64, u8}
use denote.Param.Send.{IsSend, IsSync, enum_send, recorded_send, sendable, struct_send, view_send}
use denote.Enum.Declared as enums
use denote.Struct.Declared as declared
use Rattle.std.proofs.Crossing.{crosses}
use Rattle.atomic_table.proofs.send_lease.SendLease.TheSendSync as lease
use Rattle.atomic_table.proofs.shared.Seat.TheSendSync as seat
use Rattle.atomic_table.proofs.shared.Shared.TheSendSync as table
use Rattle.turn_lock.specs.contracts.bells.Bells as bells
use Rattle.egl_calls.specs.contracts.lists.List as list
use Rattle.egl_calls.specs.contracts.payloads.Payload as payload
use Rattle.std.specs.contracts.option.Option as option
use Rattle.egl_calls.specs.contracts.kinds.Kind as kind
use Rattle.egl_calls.specs.contracts.calls.Call as call
use Rattle.egl_calls.specs.contracts.calls.Call.TheInside as inside
use Rattle.egl_calls.specs.contracts.replies.Reply as reply
use Rattle.egl_calls.specs.contracts.entries.Entry as entry
use Rattle.egl_calls.specs.contracts.entries.Journal as journal
use Rattle.buffer_objects.specs.contracts.buffers.Buffer as buffer
use Rattle.egl_image.specs.contracts.images.EglImage as egl_image
use Rattle.framebuffer_objects.specs.contracts.framebuffers.Framebuffer as framebuffer
use Rattle.framebuffer_objects.specs.contracts.renderbuffers.Renderbuffer as renderbuffer
use Rattle.display_table.specs.contracts.displays.Displays as displays
use Rattle.share_group.proofs.Sending.{group_send}
use Rattle.driver_objects.specs.contracts.contexts.Context as context
use Rattle.driver_objects.specs.contracts.fences.Fence as fence
use Rattle.driver_objects.specs.contracts.objects.Object as object
use Rattle.driver_objects.specs.contracts.renderbuffers.BackedRenderbuffer as backed_renderbuffer
use Rattle.driver_objects.specs.contracts.storages.Storage as storage
use Rattle.driver_objects.specs.contracts.surfaces.BackedSurface as surface
use Rattle.driver_objects.specs.contracts.textures.BackedTexture as texture
use Rattle.object_table.specs.contracts.stored.Stored as stored
use Rattle.object_table.specs.contracts.table.ObjectTable as objects
use Rattle.surface_store.specs.contracts.window_tables.WindowTable as windows
use Rattle.driver_facts.specs.contracts.threads.ThreadTable as threads
use Rattle.driver_core.specs.contracts.machine.Driver as driver
use Rattle.thread_part.specs.contracts.thread_part.ThreadPart as thread_part
use Rattle.shared_driver.specs.contracts.boxes.BoxedCore as boxed
use Rattle.shared_driver.specs.contracts.cores.Core as core
use Rattle.shared_driver.specs.contracts.news.News as news
use Rattle.shared_driver.specs.contracts.sleepers.Sleepers as sleepers
use Rattle.shared_driver.specs.contracts.tokens.Shared as shared
use Rattle.shared_driver.specs.contracts.tokens.Thread as thread

pub numbers_send : IsSend (list.the_row i64)
numbers_send = search (sendable, crosses) depth 60

pub bytes_send : IsSend (list.the_row u8)
bytes_send = search (sendable, crosses) depth 60

pub kind_send : IsSend (kind.the_field).row
kind_send = search (sendable, crosses) depth 60 fits 20000

pub bytes_sync : IsSync (list.the_row u8)
bytes_sync = search (sendable, crosses) depth 60

pub payload_send : IsSend payload.the_row
payload_send = let a = bytes_send in let b = bytes_sync in search (sendable, crosses) depth 60 fits 20000

pub some_payload_send : IsSend (option.the_field payload.the_row).row
some_payload_send = let a = payload_send in search (sendable, crosses) depth 60 fits 20000

pub inside_send : IsSend inside.the_row
inside_send = recorded_send _ inside.the_type.D inside.the_type.to inside.the_type.to_one (struct_send (declared.shape inside.the_type) (kind_send, (search sendable depth 20, (numbers_send, (some_payload_send, tt)))))

pub call_send : IsSend call.the_row
call_send = view_send _ _ _ _ _ inside_send

pub reply_send : IsSend reply.the_row
reply_send = let a = numbers_send in let b = bytes_send in search (sendable, crosses) depth 60

pub entry_send : IsSend entry.the_row
entry_send = let a = call_send in let b = reply_send in search (sendable, crosses) depth 60

pub journal_send : IsSend journal.the_row
journal_send = let a = entry_send in search (sendable, crosses) depth 60

pub displays_send : IsSend displays.the_row
displays_send = search (sendable, crosses) depth 60

pub context_send : IsSend (context.the_field).row
context_send = search (sendable, crosses) depth 60 fits 20000

pub surface_send : IsSend (surface.the_field).row
surface_send = search (sendable, crosses) depth 60 fits 20000

pub texture_send : IsSend (texture.the_field).row
texture_send = search (sendable, crosses) depth 60 fits 20000

pub buffer_send : IsSend buffer.the_row
buffer_send = search (sendable, crosses) depth 60 fits 20000

pub renderbuffer_send : IsSend renderbuffer.the_row
renderbuffer_send = search (sendable, crosses) depth 60 fits 20000

pub backed_renderbuffer_send : IsSend (backed_renderbuffer.the_field).row
backed_renderbuffer_send = let r = renderbuffer_send in search (sendable, crosses) depth 60 fits 20000

pub framebuffer_send : IsSend framebuffer.the_row
framebuffer_send = search (sendable, crosses) depth 60 fits 20000

pub storage_send : IsSend storage.the_row
storage_send = search (sendable, crosses) depth 60 fits 20000

pub egl_image_send : IsSend (egl_image.the_field).row
egl_image_send = search (sendable, crosses) depth 60 fits 20000

pub fence_send : IsSend (fence.the_field).row
fence_send = search (sendable, crosses) depth 60 fits 20000

pub object_send : IsSend (object.the_field).row
object_send = enum_send (enums.shape object.the_type)
    ((context_send, tt), ((group_send, tt), ((texture_send, tt), ((buffer_send, tt), ((backed_renderbuffer_send, tt), ((framebuffer_send, tt), ((surface_send, tt), ((storage_send, tt), ((egl_image_send, tt), ((fence_send, tt), tt))))))))))

pub stored_send : IsSend stored.the_row
stored_send = recorded_send _ stored.the_type.D stored.the_type.to stored.the_type.to_one (struct_send (declared.shape stored.the_type) (object_send, tt))

pub objects_send : IsSend objects.the_row
objects_send = let a = stored_send in search (sendable, crosses) depth 60 fits 20000

pub windows_send : IsSend windows.the_row
windows_send = search (sendable, crosses) depth 60

pub threads_send : IsSend threads.the_row
threads_send = search (sendable, crosses) depth 60

pub driver_send : IsSend driver.the_row
driver_send = let a = displays_send in let b = objects_send in let d = windows_send in let e = threads_send in search sendable depth 20

pub core_send : IsSend core.the_row
core_send = let a = driver_send in let b = journal_send in search (sendable, crosses) depth 60

pub boxed_send : IsSend boxed.the_row
boxed_send = let a = core_send in search (sendable, crosses) depth 60

pub sleepers_send : IsSend sleepers.the_row
sleepers_send = search (sendable, crosses) depth 60 fits 20000

pub news_send : IsSend news.the_row
news_send = let a = sleepers_send in search (sendable, crosses) depth 60 fits 20000

pub news_sync : IsSync news.the_row
news_sync = let a = sleepers_send in search (sendable, crosses) depth 60 fits 20000

pub bells_send : IsSend bells.the_row
bells_send = search (sendable, crosses) depth 60

pub bells_sync : IsSync bells.the_row
bells_sync = search (sendable, crosses) depth 60

pub part_send : IsSend thread_part.the_row
part_send = search (sendable, crosses) depth 60 fits 20000

-- a token may move to another thread, and the shared driver may move and be lent to one
pub thread_send : IsSend thread.the_row
thread_send = let a = boxed_send in let b = part_send in let d = entry_send in search (sendable, crosses, seat.the_send) depth 60 fits 40000

pub shared_send : IsSend shared.the_row
shared_send = let a = boxed_send in let b = bells_send in let d = news_send in search (sendable, crosses, table.the_send, lease.the_send) depth 60 fits 20000

pub shared_sync : IsSync shared.the_row
shared_sync = let a = boxed_send in let b = bells_sync in let d = news_sync in search (sendable, crosses, table.the_sync, lease.the_sync) depth 60 fits 20000
