-- What a glBufferData leaves, attached.
use Rattle.std.specs.Prelude.{ℕ, Option, None, Some}
use Rattle.buffer_objects.specs.Buffers.{BufferValue}
use Rattle.egl_model.specs.Objects.{change_buffer}
use Rattle.egl_model.specs.State.{State}

-- the buffer of a number is this one
abbrev pub refilled : BufferValue → Option ℕ → State → State
refilled contents None s = s
refilled contents (Some x) s = record s { objects = change_buffer (λ b. contents) x s.objects }
