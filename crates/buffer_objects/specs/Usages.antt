-- What the contents of a buffer are meant for.
use Rattle.std.specs.Prelude.{ℕ, ◌==◌, if◌then◌else◌}
use Rattle.egl_names.specs.declared.codes.TheConstants.{GL_STATIC_DRAW, GL_DYNAMIC_DRAW}
use Rattle.buffer_objects.specs.declared.usages.Usage.{Usage}
use Rattle.buffer_objects.specs.declared.usages.Usage.TheVariants.{StaticDraw, DynamicDraw}

-- any number but the one stands for the other
abbrev pub usage_of : ℕ → Usage
usage_of code = if code == GL_DYNAMIC_DRAW then DynamicDraw else StaticDraw

abbrev pub usage_code : Usage → ℕ
usage_code StaticDraw = GL_STATIC_DRAW
usage_code DynamicDraw = GL_DYNAMIC_DRAW
