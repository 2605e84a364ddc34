-- The internal formats of renderbuffers.
use Rattle.std.specs.Prelude.{ℕ, Bool, ◌||◌, ◌==◌, if◌then◌else◌}
use Rattle.std.specs.declared.option.Option.{Option}
use Rattle.std.specs.declared.option.Option.TheVariants.{None, Some}
use Rattle.egl_names.specs.declared.codes.TheConstants.{GL_RGB565_OES, GL_RGBA4_OES, GL_RGB5_A1_OES, GL_RGBA8_OES, GL_DEPTH_COMPONENT16_OES, GL_STENCIL_INDEX8_OES}
use Rattle.pixel_formats.specs.declared.formats.Format.{Format}
use Rattle.pixel_formats.specs.declared.formats.Format.TheVariants.{Rgb565, Rgba4444, Rgba5551, Rgba8888}
use Rattle.framebuffer_objects.specs.declared.points.Point.{Point}
use Rattle.framebuffer_objects.specs.declared.points.Point.TheVariants.{Color, Depth, Stencil}

-- the codes of the internal formats
abbrev pub is_internal : ℕ → Bool
is_internal f =
    (f == GL_RGB565_OES) || (f == GL_RGBA4_OES) || (f == GL_RGB5_A1_OES) || (f == GL_RGBA8_OES)
    || (f == GL_DEPTH_COMPONENT16_OES) || (f == GL_STENCIL_INDEX8_OES)

-- how the pixels of a colour are stored; depth and stencil hold no values
abbrev pub format_of : ℕ → Option Format
format_of f =
    if f == GL_RGB565_OES then Some Rgb565
    else if f == GL_RGBA4_OES then Some Rgba4444
    else if f == GL_RGB5_A1_OES then Some Rgba5551
    else if f == GL_RGBA8_OES then Some Rgba8888
    else None

-- the point that such a renderbuffer is for
abbrev pub point_of : ℕ → Point
point_of f =
    if f == GL_DEPTH_COMPONENT16_OES then Depth
    else if f == GL_STENCIL_INDEX8_OES then Stencil
    else Color
