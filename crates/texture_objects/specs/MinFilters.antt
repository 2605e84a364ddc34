-- How a texture is drawn smaller (OpenGL ES 1.1, "Texture Minification").
use Rattle.std.specs.Prelude.{ℕ, Bool, true, false, ◌||◌, ◌==◌, if◌then◌else◌}
use Rattle.std.specs.declared.option.Option.{Option}
use Rattle.std.specs.declared.option.Option.TheVariants.{None, Some}
use Rattle.egl_names.specs.declared.codes.TheConstants.{GL_NEAREST, GL_LINEAR, GL_NEAREST_MIPMAP_NEAREST, GL_LINEAR_MIPMAP_NEAREST, GL_NEAREST_MIPMAP_LINEAR, GL_LINEAR_MIPMAP_LINEAR}
use Rattle.texture_objects.specs.declared.parameters.MinFilter.{MinFilter}
use Rattle.texture_objects.specs.declared.parameters.MinFilter.TheVariants.{Nearest, Linear, NearestMipmapNearest, LinearMipmapNearest, NearestMipmapLinear, LinearMipmapLinear}

-- the codes of the six filters
abbrev pub is_min_filter : ℕ → Bool
is_min_filter code =
    (code == GL_NEAREST) || (code == GL_LINEAR) || (code == GL_NEAREST_MIPMAP_NEAREST) || (code == GL_LINEAR_MIPMAP_NEAREST)
    || (code == GL_NEAREST_MIPMAP_LINEAR) || (code == GL_LINEAR_MIPMAP_LINEAR)

-- the filter of a code
abbrev pub min_filter_of : ℕ → Option MinFilter
min_filter_of code =
    if code == GL_NEAREST then Some Nearest
    else if code == GL_LINEAR then Some Linear
    else if code == GL_NEAREST_MIPMAP_NEAREST then Some NearestMipmapNearest
    else if code == GL_LINEAR_MIPMAP_NEAREST then Some LinearMipmapNearest
    else if code == GL_NEAREST_MIPMAP_LINEAR then Some NearestMipmapLinear
    else if code == GL_LINEAR_MIPMAP_LINEAR then Some LinearMipmapLinear
    else None

abbrev pub min_filter_code : MinFilter → ℕ
min_filter_code Nearest = GL_NEAREST
min_filter_code Linear = GL_LINEAR
min_filter_code NearestMipmapNearest = GL_NEAREST_MIPMAP_NEAREST
min_filter_code LinearMipmapNearest = GL_LINEAR_MIPMAP_NEAREST
min_filter_code NearestMipmapLinear = GL_NEAREST_MIPMAP_LINEAR
min_filter_code LinearMipmapLinear = GL_LINEAR_MIPMAP_LINEAR

-- whether levels above 0 count for it
abbrev pub uses_mipmaps : MinFilter → Bool
uses_mipmaps Nearest = false
uses_mipmaps Linear = false
uses_mipmaps NearestMipmapNearest = true
uses_mipmaps LinearMipmapNearest = true
uses_mipmaps NearestMipmapLinear = true
uses_mipmaps LinearMipmapLinear = true
