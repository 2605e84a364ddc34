-- What the rows of the tables say of each call. The tables are in the order of the kinds.
use Rattle.std.specs.Prelude.{List, [], Option, None, Some, map, slice_index_or}
use denote.Enum.Declared.{tag_of}
use Rattle.egl_calls.specs.declared.errors.EglError.{EglError}
use Rattle.egl_calls.specs.declared.errors.GlError.{GlError}
use Rattle.egl_calls.specs.declared.kinds.EglKind.{EglKind}
use Rattle.egl_calls.specs.declared.kinds.GlKind.{GlKind}
use Rattle.egl_calls.specs.declared.kinds.OwnKind.{OwnKind}
use Rattle.egl_calls.specs.declared.kinds.OwnKind.TheVariants.{WaitEnd, Halt}
use Rattle.egl_calls.specs.contracts.kinds.EglKind as egl_kinds
use Rattle.egl_calls.specs.contracts.kinds.GlKind as gl_kinds
use Rattle.egl_calls.specs.contracts.kinds.OwnKind as own_kinds
use Rattle.call_table.specs.declared.answers.AnswerSort.{AnswerSort}
use Rattle.call_table.specs.declared.answers.AnswerSort.TheVariants.{Same}
use Rattle.call_table.specs.declared.egl_conditions.EglCondition.{EglCondition}
use Rattle.call_table.specs.declared.egl_table.TheConstants.{EGL_CALLS}
use Rattle.call_table.specs.declared.gl_conditions.GlCondition.{GlCondition}
use Rattle.call_table.specs.declared.gl_table.TheConstants.{GL_CALLS}
use Rattle.call_table.specs.declared.own_table.TheConstants.{OWN_CALLS}
use Rattle.call_table.specs.declared.roles.Role.{Role}
use Rattle.call_table.specs.declared.roles.Role.TheVariants.{Plain}

-- the conditions that refuse a call, with their errors, in the order in which they are tried
abbrev pub egl_rules : EglKind → List (EglCondition × EglError)
egl_rules k = slice_index_or (map (λ r. r.4.now) EGL_CALLS) (tag_of egl_kinds.the_type k) []

abbrev pub gl_rules : GlKind → List (GlCondition × GlError)
gl_rules k = slice_index_or (map (λ r. r.4.now) GL_CALLS) (tag_of gl_kinds.the_type k) []

abbrev pub own_rules : OwnKind → List (GlCondition × GlError)
own_rules k = slice_index_or (map (λ r. r.4.now) OWN_CALLS) (tag_of own_kinds.the_type k) []

-- what a call is for
abbrev pub egl_role : EglKind → Role
egl_role k = slice_index_or (map (λ r. r.5) EGL_CALLS) (tag_of egl_kinds.the_type k) Plain

abbrev pub gl_role : GlKind → Role
gl_role k = slice_index_or (map (λ r. r.5) GL_CALLS) (tag_of gl_kinds.the_type k) Plain

-- what a call answers
abbrev pub egl_answers : EglKind → AnswerSort
egl_answers k = slice_index_or (map (λ r. r.6) EGL_CALLS) (tag_of egl_kinds.the_type k) Same

abbrev pub gl_answers : GlKind → AnswerSort
gl_answers k = slice_index_or (map (λ r. r.6) GL_CALLS) (tag_of gl_kinds.the_type k) Same

-- the kind in the row that is looked up for a kind
abbrev pub egl_kind : EglKind → Option EglKind
egl_kind k = slice_index_or (map (λ r. Some r.1) EGL_CALLS) (tag_of egl_kinds.the_type k) None

abbrev pub gl_kind : GlKind → Option GlKind
gl_kind k = slice_index_or (map (λ r. Some r.1) GL_CALLS) (tag_of gl_kinds.the_type k) None

abbrev pub own_kind : OwnKind → Option OwnKind
own_kind k = slice_index_or (map (λ r. Some r.1) OWN_CALLS) (tag_of own_kinds.the_type k) None

-- a kind that has a name, and so a row: all but the end of a wait and a Halt
abbrev pub named_kind : OwnKind → Option OwnKind
named_kind WaitEnd = None
named_kind Halt = None
named_kind k = Some k
