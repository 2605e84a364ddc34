-- How a texture is drawn larger (OpenGL ES 1.1, "Texture Magnification").
use Rattle.std.specs.Prelude.{ℕ, Bool, ◌||◌, ◌==◌, if◌then◌else◌}
use Rattle.std.specs.declared.option.Option.{Option}
use Rattle.std.specs.declared.option.Option.TheVariants.{None, Some}
use Rattle.egl_names.specs.declared.codes.TheConstants.{GL_NEAREST, GL_LINEAR}
use Rattle.texture_objects.specs.declared.parameters.MagFilter.{MagFilter}
use Rattle.texture_objects.specs.declared.parameters.MagFilter.TheVariants.{Nearest, Linear}

-- the codes of the two filters
abbrev pub is_mag_filter : ℕ → Bool
is_mag_filter code = (code == GL_NEAREST) || (code == GL_LINEAR)

-- the filter of a code
abbrev pub mag_filter_of : ℕ → Option MagFilter
mag_filter_of code =
    if code == GL_NEAREST then Some Nearest
    else if code == GL_LINEAR then Some Linear
    else None

abbrev pub mag_filter_code : MagFilter → ℕ
mag_filter_code Nearest = GL_NEAREST
mag_filter_code Linear = GL_LINEAR
