-- What the conditions of the calls on renderbuffers ask (OES_framebuffer_object).
use Rattle.std.specs.Prelude.{ℕ, ℤ, pos, Bool, ◌||◌, ◌==◌, int_lt}
use Rattle.egl_names.specs.declared.codes.TheConstants.{GL_RENDERBUFFER_HEIGHT_OES, GL_RENDERBUFFER_WIDTH_OES}

abbrev pub is_renderbuffer_parameter : ℕ → Bool
is_renderbuffer_parameter pname = (pname == GL_RENDERBUFFER_WIDTH_OES) || (pname == GL_RENDERBUFFER_HEIGHT_OES)

-- a width or height that nothing can have
abbrev pub is_no_side : ℤ → Bool
is_no_side side = int_lt side (pos 0) || int_lt (pos 2048) side
