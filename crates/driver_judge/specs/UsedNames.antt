-- The names that a call has as numbers: each stands for itself.
use Rattle.std.specs.Prelude.{ℕ, ℤ, pos, Bool, true, false, not, ◌&&◌, ◌||◌, map, slice_index_or, Option, None, Some}
use Rattle.std.specs.List.{list_any}
use Rattle.std.specs.Option.{option_map_or}
use Rattle.std.specs.Ordering.{int_eq}
use denote.Enum.Declared.{tag_of}
use Rattle.egl_calls.specs.Calls.{CallValue}
use Rattle.egl_calls.specs.contracts.kinds.GlKind as gl_kinds
use Rattle.egl_calls.specs.declared.kinds.Kind.{Kind}
use Rattle.egl_calls.specs.declared.kinds.Kind.TheVariants.{Egl, Gl, Own}
use Rattle.egl_calls.specs.declared.kinds.GlKind.{GlKind}
use Rattle.egl_calls.specs.declared.places.TheConstants.{ASKED_NAME, ATTACHED_NAME, BOUND_NAME, CLIENT_BUFFER}
use Rattle.call_table.specs.Rows.{egl_role, gl_role, gl_rules}
use Rattle.call_table.specs.declared.forms.Form.{Form}
use Rattle.call_table.specs.declared.forms.Form.TheVariants.{NameList, NumberOrVariable}
use Rattle.call_table.specs.declared.gl_conditions.GlCondition.{GlCondition}
use Rattle.call_table.specs.declared.gl_conditions.GlCondition.TheVariants.{NoImage}
use Rattle.call_table.specs.declared.gl_table.TheConstants.{GL_CALLS}
use Rattle.call_table.specs.declared.roles.Role.{Role}
use Rattle.call_table.specs.declared.roles.Role.TheVariants.{Asks, Attaches, Binds, Creates, Deletes}
use Rattle.display_table.specs.declared.handles.HandleKind.TheVariants.{Image}
use Rattle.share_group.specs.declared.names.NameKind.{NameKind}
use Rattle.trace_reader.specs.declared.traces.Line.{Line}
use Rattle.egl_model.specs.Images.{source_kind}
use Rattle.driver_judge.specs.declared.used_names.NamePlaces.{NamePlaces}
use Rattle.driver_judge.specs.declared.used_names.NamePlaces.TheVariants.{AtPlace, InList, OfImage}
use Rattle.driver_judge.specs.Maps.{Both, Entries, found, given_as, given_for, name_key}

-- by what a call is for. An image is made of what a name of a texture or of a renderbuffer names (EGL 1.5, section 3.9)
abbrev pub names_by_role : Role → Option NamePlaces
names_by_role (Asks kind) = Some (AtPlace kind ASKED_NAME)
names_by_role (Binds kind) = Some (AtPlace kind BOUND_NAME)
names_by_role (Attaches kind) = Some (AtPlace kind ATTACHED_NAME)
names_by_role (Deletes kind) = Some (InList kind)
names_by_role (Creates Image) = Some OfImage
names_by_role role = None

abbrev pub gl_names : GlKind → Option NamePlaces
gl_names k = names_by_role (gl_role k)

-- where a call has names, and of which kind
abbrev pub name_places : Kind → Option NamePlaces
name_places (Egl k) = names_by_role (egl_role k)
name_places (Gl k) = gl_names k
name_places (Own k) = None

-- ---- What the table says of arguments: of OpenGL ES a variable stands only for a name or an image.
abbrev pub is_object : Form → Bool
is_object NumberOrVariable = true
is_object NameList = true
is_object form = false

abbrev pub has_objects : GlKind → Bool
has_objects k = slice_index_or (map (λ r. list_any is_object r.2.now) GL_CALLS) (tag_of gl_kinds.the_type k) false

-- a call that is refused where its image isn't one
abbrev pub is_image_test : GlCondition → Bool
is_image_test NoImage = true
is_image_test condition = false

abbrev pub takes_image : GlKind → Bool
takes_image k = list_any (λ r. is_image_test r.0) (gl_rules k)

-- ---- In a line 0 stands where a variable does, and 0 is no name.
abbrev pub is_other : Option ℤ → ℤ → Bool
is_other o z = option_map_or (λ w. not (int_eq w z)) o false

-- a number that is a name of ours for which theirs has another number, or one of theirs that was given for another of ours; 0 is none
abbrev pub is_renamed : Both → ℕ → NameKind → ℤ → Bool
is_renamed m group kind z = not (int_eq z (pos 0)) && (is_other (given_for m group kind z) z || is_other (given_as m group kind z) z)

abbrev pub is_renamed_in : Both → Option ℕ → NameKind → ℤ → Bool
is_renamed_in m None kind z = false
is_renamed_in m (Some group) kind z = is_renamed m group kind z

-- ---- eglCreateImage names a context, which needn't be current: there a number of a kind is renamed where it ever was, in any group.
abbrev pub image_name : CallValue → ℤ
image_name c = slice_index_or c.args CLIENT_BUFFER (pos 0)

-- numbers of a kind that ever were names of ours or of theirs with another number on the other side
abbrev pub is_ever_renamed : Entries → NameKind → ℤ → Bool
is_ever_renamed renamed kind z = option_map_or (λ w. true) (found (name_key 0 kind z) renamed) false

abbrev pub uses_renamed_by : Entries → Both → Option ℕ → CallValue → Option NamePlaces → Bool
uses_renamed_by renamed m group c None = false
uses_renamed_by renamed m group c (Some (AtPlace kind place)) = is_renamed_in m group kind (slice_index_or c.args place (pos 0))
uses_renamed_by renamed m group c (Some (InList kind)) = list_any (is_renamed_in m group kind) c.list
uses_renamed_by renamed m group c (Some OfImage) = is_ever_renamed renamed (source_kind c) (image_name c)

-- whether the call of a line has a name as a number that is another's in theirs, where this is the group of its thread's current context
unfoldable pub uses_renamed : Entries → Both → Option ℕ → Line → Bool
uses_renamed renamed m group l = uses_renamed_by renamed m group l.call (name_places l.call.kind)
