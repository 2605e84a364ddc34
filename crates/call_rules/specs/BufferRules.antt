-- What the conditions of the calls on buffers ask (OpenGL ES 1.1, sections 2.9 and 6.1.12).
use Rattle.std.specs.Prelude.{ℕ, Bool, ◌||◌, ◌==◌}
use Rattle.egl_names.specs.declared.codes.TheConstants.{GL_ARRAY_BUFFER, GL_BUFFER_SIZE, GL_BUFFER_USAGE, GL_DYNAMIC_DRAW, GL_ELEMENT_ARRAY_BUFFER, GL_STATIC_DRAW}

abbrev pub is_buffer_target : ℕ → Bool
is_buffer_target target = (target == GL_ARRAY_BUFFER) || (target == GL_ELEMENT_ARRAY_BUFFER)

abbrev pub is_buffer_parameter : ℕ → Bool
is_buffer_parameter pname = (pname == GL_BUFFER_SIZE) || (pname == GL_BUFFER_USAGE)

abbrev pub is_usage : ℕ → Bool
is_usage usage = (usage == GL_STATIC_DRAW) || (usage == GL_DYNAMIC_DRAW)
