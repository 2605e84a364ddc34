-- The calls of OpenGL ES that ask and set the state of their context alone.
use Rattle.std.specs.Prelude.{Bool, is_some}
use Rattle.std.specs.declared.option.Option.{Option}
use Rattle.std.specs.declared.option.Option.TheVariants.{None, Some}
use Rattle.egl_calls.specs.declared.kinds.Kind.{Kind}
use Rattle.egl_calls.specs.declared.kinds.Kind.TheVariants.{Egl, Gl, Own}
use Rattle.egl_calls.specs.declared.kinds.GlKind.{GlKind}
use Rattle.call_table.specs.Rows.{gl_role}
use Rattle.call_table.specs.declared.roles.Role.{Role}
use Rattle.call_table.specs.declared.roles.Role.TheVariants.{OwnState}

-- by its role
abbrev pub context_call_by : Role → GlKind → Option GlKind
context_call_by OwnState k = Some k
context_call_by r k = None

abbrev pub context_gl_call : GlKind → Option GlKind
context_gl_call k = context_call_by (gl_role k) k

-- no call of EGL and none of this project's own is one of them
abbrev pub context_call : Kind → Option GlKind
context_call (Egl k) = None
context_call (Gl k) = context_gl_call k
context_call (Own k) = None

abbrev pub is_context_call : Kind → Bool
is_context_call k = is_some (context_call k)
