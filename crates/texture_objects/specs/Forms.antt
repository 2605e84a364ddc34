-- The forms of transferred data (OpenGL ES 1.1, "Unpacking").
use Rattle.std.specs.Prelude.{ℕ, ◌&&◌, ◌==◌, if◌then◌else◌}
use Rattle.std.specs.declared.option.Option.{Option}
use Rattle.std.specs.declared.option.Option.TheVariants.{None, Some}
use Rattle.egl_names.specs.declared.codes.TheConstants.{GL_ALPHA, GL_RGB, GL_RGBA, GL_LUMINANCE, GL_LUMINANCE_ALPHA, GL_UNSIGNED_BYTE, GL_UNSIGNED_SHORT_5_6_5, GL_UNSIGNED_SHORT_4_4_4_4, GL_UNSIGNED_SHORT_5_5_5_1}
use Rattle.pixel_formats.specs.Formats.{base_of}
use Rattle.pixel_formats.specs.declared.formats.Base.{Base}
use Rattle.pixel_formats.specs.declared.formats.Base.TheVariants.{Rgb, Rgba, Alpha, Luminance, LuminanceAlpha}
use Rattle.pixel_formats.specs.declared.formats.Format.{Format}
use Rattle.pixel_formats.specs.declared.formats.Format.TheVariants.{Rgb565, Rgb888, Rgba8888, Rgba4444, Rgba5551, A8, L8, La88}

-- a byte for each component of a format
abbrev pub byte_form : ℕ → Option Format
byte_form format =
    if format == GL_RGB then Some Rgb888
    else if format == GL_RGBA then Some Rgba8888
    else if format == GL_ALPHA then Some A8
    else if format == GL_LUMINANCE then Some L8
    else if format == GL_LUMINANCE_ALPHA then Some La88
    else None

-- the form of pixels with a format and a type, by their codes; none where the two don't go together
abbrev pub form_of : ℕ → ℕ → Option Format
form_of format kind =
    if kind == GL_UNSIGNED_BYTE then byte_form format
    else if (kind == GL_UNSIGNED_SHORT_5_6_5) && (format == GL_RGB) then Some Rgb565
    else if (kind == GL_UNSIGNED_SHORT_4_4_4_4) && (format == GL_RGBA) then Some Rgba4444
    else if (kind == GL_UNSIGNED_SHORT_5_5_5_1) && (format == GL_RGBA) then Some Rgba5551
    else None

-- the codes of the base formats
abbrev pub code_of_base : Base → ℕ
code_of_base Rgb = GL_RGB
code_of_base Rgba = GL_RGBA
code_of_base Alpha = GL_ALPHA
code_of_base Luminance = GL_LUMINANCE
code_of_base LuminanceAlpha = GL_LUMINANCE_ALPHA

-- the code of the base format of a storage format
abbrev pub base_code : Format → ℕ
base_code f = code_of_base (base_of f)
