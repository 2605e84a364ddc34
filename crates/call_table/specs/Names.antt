-- The words that name calls.
use Rattle.std.specs.Prelude.{ℕ, List, [], map, slice_index_or}
use denote.Enum.Declared.{tag_of}
use Rattle.egl_calls.specs.declared.kinds.Kind.{Kind}
use Rattle.egl_calls.specs.declared.kinds.Kind.TheVariants.{Egl, Gl, Own}
use Rattle.egl_calls.specs.declared.kinds.EglKind.{EglKind}
use Rattle.egl_calls.specs.declared.kinds.GlKind.{GlKind}
use Rattle.egl_calls.specs.declared.kinds.OwnKind.{OwnKind}
use Rattle.egl_calls.specs.contracts.kinds.EglKind as egl_kinds
use Rattle.egl_calls.specs.contracts.kinds.GlKind as gl_kinds
use Rattle.egl_calls.specs.contracts.kinds.OwnKind as own_kinds
use Rattle.call_table.specs.declared.egl_table.TheConstants.{EGL_CALLS}
use Rattle.call_table.specs.declared.gl_table.TheConstants.{GL_CALLS}
use Rattle.call_table.specs.declared.own_table.TheConstants.{OWN_CALLS}

abbrev pub egl_name : EglKind → List ℕ
egl_name k = slice_index_or (map (λ r. r.0.now) EGL_CALLS) (tag_of egl_kinds.the_type k) []

abbrev pub gl_name : GlKind → List ℕ
gl_name k = slice_index_or (map (λ r. r.0.now) GL_CALLS) (tag_of gl_kinds.the_type k) []

-- the end of a wait and a Halt have none
abbrev pub own_name : OwnKind → List ℕ
own_name k = slice_index_or (map (λ r. r.0.now) OWN_CALLS) (tag_of own_kinds.the_type k) []

unfoldable pub call_name : Kind → List ℕ
call_name (Egl k) = egl_name k
call_name (Gl k) = gl_name k
call_name (Own k) = own_name k
