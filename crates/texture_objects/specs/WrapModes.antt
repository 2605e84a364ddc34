-- What stands outside a texture (OpenGL ES 1.1, "Texture Wrap Modes").
use Rattle.std.specs.Prelude.{ℕ, Bool, ◌||◌, ◌==◌, if◌then◌else◌}
use Rattle.std.specs.declared.option.Option.{Option}
use Rattle.std.specs.declared.option.Option.TheVariants.{None, Some}
use Rattle.egl_names.specs.declared.codes.TheConstants.{GL_REPEAT, GL_CLAMP_TO_EDGE}
use Rattle.texture_objects.specs.declared.parameters.WrapMode.{WrapMode}
use Rattle.texture_objects.specs.declared.parameters.WrapMode.TheVariants.{Repeat, ClampToEdge}

-- the codes of the two modes
abbrev pub is_wrap_mode : ℕ → Bool
is_wrap_mode code = (code == GL_REPEAT) || (code == GL_CLAMP_TO_EDGE)

-- the mode of a code
abbrev pub wrap_mode_of : ℕ → Option WrapMode
wrap_mode_of code =
    if code == GL_REPEAT then Some Repeat
    else if code == GL_CLAMP_TO_EDGE then Some ClampToEdge
    else None

abbrev pub wrap_mode_code : WrapMode → ℕ
wrap_mode_code Repeat = GL_REPEAT
wrap_mode_code ClampToEdge = GL_CLAMP_TO_EDGE
