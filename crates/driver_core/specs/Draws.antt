-- The calls that draw (OES_draw_texture).
use Rattle.std.specs.Prelude.{Bool}
use Rattle.egl_calls.specs.declared.kinds.GlKind.{GlKind}
use Rattle.call_table.specs.Roles.{draws}
use Rattle.call_table.specs.Rows.{gl_role}

abbrev pub is_draw : GlKind → Bool
is_draw k = draws (gl_role k)
