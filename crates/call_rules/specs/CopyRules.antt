-- What the conditions of the calls that copy pixels into a texture ask (OpenGL ES 1.1, sections 3.7.1 and 3.7.2).
use Rattle.std.specs.Prelude.{ℕ, Bool, ◌||◌, ◌==◌}
use Rattle.egl_names.specs.declared.codes.TheConstants.{GL_ALPHA, GL_LUMINANCE_ALPHA, GL_RGBA}

-- the base formats with alpha
abbrev pub has_alpha : ℕ → Bool
has_alpha format = (format == GL_RGBA) || (format == GL_ALPHA) || (format == GL_LUMINANCE_ALPHA)
