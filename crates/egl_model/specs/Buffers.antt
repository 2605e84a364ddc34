-- Buffers (OpenGL ES 1.1, sections 2.9 and 6.1.12).
use Rattle.std.specs.Prelude.{ℕ, ◌+◌, ℤ, List, [], slice_range, Option, None, Some}
use Rattle.std.specs.Option.{option_and_then, option_map_or}
use Rattle.egl_calls.specs.Calls.{CallValue}
use Rattle.egl_calls.specs.declared.places.TheConstants.{BOUND_PNAME, BUFFER_OFFSET, BUFFER_PART_SIZE, BUFFER_SIZE, BUFFER_USAGE, TARGET}
use Rattle.buffer_objects.specs.Buffers.{BufferValue, parameter, replaced, specified}
use Rattle.buffer_objects.specs.Contents.{given}
use Rattle.driver_objects.specs.Links.{bound_in}
use Rattle.driver_objects.specs.Targets.{buffer_target, slot_of}
use Rattle.egl_model.specs.State.{State}
use Rattle.egl_model.specs.Arguments.{number}
use Rattle.egl_model.specs.Objects.{buffer_in, change_buffer, context_in}

-- ---- The buffer on which calls work: what the context has bound to the call's target.
abbrev pub target_slot : CallValue → ℕ
target_slot c = slot_of (buffer_target (number c TARGET))

abbrev pub target_buffer : State → ℕ → CallValue → Option ℕ
target_buffer s n c = option_and_then (λ x. bound_in (target_slot c) x.bound) (context_in s.objects n)

abbrev pub buffer_of : State → ℕ → CallValue → Option BufferValue
buffer_of s n c = option_and_then (buffer_in s.objects) (target_buffer s n c)

-- ---- glBufferData.
abbrev pub with_data : CallValue → BufferValue → BufferValue
with_data c b = specified (number c BUFFER_SIZE) (number c BUFFER_USAGE) (given c.bytes)

abbrev pub set_data : CallValue → Option ℕ → State → State
set_data c None s = s
set_data c (Some x) s = record s { objects = change_buffer (with_data c) x s.objects }

-- ---- glBufferSubData.
abbrev pub with_part_of : CallValue → BufferValue → BufferValue
with_part_of c b = replaced (number c BUFFER_OFFSET) (number c BUFFER_PART_SIZE) (given c.bytes) b

abbrev pub set_part_of : CallValue → Option ℕ → State → State
set_part_of c None s = s
set_part_of c (Some x) s = record s { objects = change_buffer (with_part_of c) x s.objects }

-- ---- glGetBufferParameteriv.
abbrev pub buffer_parameter : CallValue → Option BufferValue → Option ℤ
buffer_parameter c o = option_and_then (parameter (number c BOUND_PNAME)) o

-- ---- readBuffer: a part of the contents.
abbrev pub part_in : CallValue → BufferValue → List ℕ
part_in c b = slice_range b.contents (number c BUFFER_OFFSET) (number c BUFFER_OFFSET + number c BUFFER_PART_SIZE)

abbrev pub part_read : CallValue → Option BufferValue → List ℕ
part_read c o = option_map_or (part_in c) o []
