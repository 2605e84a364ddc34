-- What the rows of calls say of how they are written.
use Rattle.std.specs.Prelude.{ℕ, List, [], map, slice_index_or}
use denote.Enum.Declared.{tag_of}
use Rattle.egl_calls.specs.contracts.kinds.EglKind as egl_kinds
use Rattle.egl_calls.specs.contracts.kinds.GlKind as gl_kinds
use Rattle.egl_calls.specs.contracts.kinds.OwnKind as own_kinds
use Rattle.egl_calls.specs.declared.kinds.Kind.{Kind}
use Rattle.egl_calls.specs.declared.kinds.Kind.TheVariants.{Egl, Gl, Own}
use Rattle.call_table.specs.declared.egl_table.TheConstants.{EGL_CALLS}
use Rattle.call_table.specs.declared.forms.Form.{Form}
use Rattle.call_table.specs.declared.gl_table.TheConstants.{GL_CALLS}
use Rattle.call_table.specs.declared.own_table.TheConstants.{OWN_CALLS}

-- the forms of the arguments of a call; the end of a wait and a Halt have none
unfoldable pub call_forms : Kind → List Form
call_forms (Egl k) = slice_index_or (map (λ r. r.2.now) EGL_CALLS) (tag_of egl_kinds.the_type k) []
call_forms (Gl k) = slice_index_or (map (λ r. r.2.now) GL_CALLS) (tag_of gl_kinds.the_type k) []
call_forms (Own k) = slice_index_or (map (λ r. r.2.now) OWN_CALLS) (tag_of own_kinds.the_type k) []
