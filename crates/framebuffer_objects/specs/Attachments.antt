-- The names of attachment points.
use Rattle.std.specs.Prelude.{ℕ, Bool, ◌||◌, ◌==◌, if◌then◌else◌}
use Rattle.egl_names.specs.declared.codes.TheConstants.{GL_COLOR_ATTACHMENT0_OES, GL_DEPTH_ATTACHMENT_OES, GL_STENCIL_ATTACHMENT_OES}
use Rattle.framebuffer_objects.specs.declared.points.Point.{Point}
use Rattle.framebuffer_objects.specs.declared.points.Point.TheVariants.{Color, Depth, Stencil}

-- the codes of the three points
abbrev pub is_attachment : ℕ → Bool
is_attachment a = (a == GL_COLOR_ATTACHMENT0_OES) || (a == GL_DEPTH_ATTACHMENT_OES) || (a == GL_STENCIL_ATTACHMENT_OES)

-- the point of a code; any number but two stands for colour
abbrev pub attachment_point : ℕ → Point
attachment_point a =
    if a == GL_DEPTH_ATTACHMENT_OES then Depth
    else if a == GL_STENCIL_ATTACHMENT_OES then Stencil
    else Color
