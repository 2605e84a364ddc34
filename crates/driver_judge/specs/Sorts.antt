-- What the answer of a call is.
use Rattle.std.specs.Prelude.{ℕ, ◌==◌, ◌||◌, List, [], ◌∷◌, if◌then◌else◌, Option, None, Some}
use Rattle.std.specs.List.{list_any}
use Rattle.std.specs.Option.{option_and_then}
use Rattle.egl_calls.specs.Arguments.{number}
use Rattle.egl_calls.specs.Calls.{CallValue}
use Rattle.egl_calls.specs.declared.kinds.Kind.{Kind}
use Rattle.egl_calls.specs.declared.kinds.Kind.TheVariants.{Egl, Gl, Own as OwnCall}
use Rattle.egl_calls.specs.declared.places.TheConstants.{ATTACHMENT_PNAME, ATTRIBUTE, PNAME}
use Rattle.egl_names.specs.declared.codes.TheConstants.{EGL_CONFIG_ID, EGL_MAX_PBUFFER_HEIGHT, EGL_MAX_PBUFFER_PIXELS, EGL_MAX_PBUFFER_WIDTH, EGL_MAX_SWAP_INTERVAL, EGL_MIN_SWAP_INTERVAL, EGL_NATIVE_VISUAL_ID, EGL_NATIVE_VISUAL_TYPE, GL_ARRAY_BUFFER_BINDING, GL_ELEMENT_ARRAY_BUFFER_BINDING, GL_FRAMEBUFFER_ATTACHMENT_OBJECT_NAME_OES, GL_FRAMEBUFFER_BINDING_OES, GL_RENDERBUFFER_BINDING_OES, GL_TEXTURE_BINDING_2D}
use Rattle.framebuffer_objects.specs.declared.framebuffers.Attached.{Attached}
use Rattle.share_group.specs.declared.names.NameKind.TheVariants.{Buffer, Framebuffer, Renderbuffer, Texture}
use Rattle.egl_model.specs.Currents.{current_context}
use Rattle.egl_model.specs.Framebuffers.{attachment_of}
use Rattle.egl_model.specs.State.{State}
use Rattle.call_table.specs.Rows.{egl_answers, gl_answers}
use Rattle.call_table.specs.declared.answers.AnswerSort.{AnswerSort}
use Rattle.call_table.specs.declared.answers.AnswerSort.TheVariants.{Same, Makes, Displays, Currents, ConfigLists, ConfigAttributes, Attributes, MakesNames, FreesNames, Bindings, Attachments, Reads}
use Rattle.driver_judge.specs.declared.sorts.Mapped.TheVariants.{Display, Handle}
use Rattle.driver_judge.specs.declared.sorts.Sort.{Sort}
use Rattle.driver_judge.specs.declared.sorts.Sort.TheVariants.{Equal, Own, NewHandle, SameHandle, ConfigList, ConfigId, NewNames, FreedNames, SameName, PixelBytes}

-- what a call answers, as its row says
abbrev pub answers : Kind → AnswerSort
answers (Egl k) = egl_answers k
answers (Gl k) = gl_answers k
answers (OwnCall k) = Same

-- the attributes of a config that are each implementation's own (EGL 1.5, section 3.4)
abbrev pub own_attributes : List ℕ
own_attributes =
    EGL_NATIVE_VISUAL_ID ∷ EGL_NATIVE_VISUAL_TYPE ∷ EGL_MAX_PBUFFER_WIDTH ∷ EGL_MAX_PBUFFER_HEIGHT ∷ EGL_MAX_PBUFFER_PIXELS
    ∷ EGL_MAX_SWAP_INTERVAL ∷ EGL_MIN_SWAP_INTERVAL ∷ []

abbrev pub config_attribute : ℕ → Sort
config_attribute a = if a == EGL_CONFIG_ID then ConfigId else if list_any (λ own. a == own) own_attributes then Own else Equal

-- a surface and a context have the config with which they were made (sections 3.5.6 and 3.7.4)
abbrev pub attribute_sort : ℕ → Sort
attribute_sort a = if a == EGL_CONFIG_ID then ConfigId else Equal

-- the kind of the names that stand at a binding, whose value a context answers
unfoldable pub binding : ℕ → Sort
binding which =
    if which == GL_TEXTURE_BINDING_2D then SameName Texture
    else if (which == GL_ARRAY_BUFFER_BINDING) || (which == GL_ELEMENT_ARRAY_BUFFER_BINDING) then SameName Buffer
    else if which == GL_RENDERBUFFER_BINDING_OES then SameName Renderbuffer
    else if which == GL_FRAMEBUFFER_BINDING_OES then SameName Framebuffer
    else Equal

-- what is attached is a texture or a renderbuffer
abbrev pub attached_name : Option Attached → Sort
attached_name None = Equal
attached_name (Some a) = SameName (if a.texture then Texture else Renderbuffer)

abbrev pub attachment : Option Attached → ℕ → Sort
attachment a which = if which == GL_FRAMEBUFFER_ATTACHMENT_OBJECT_NAME_OES then attached_name a else Equal

-- what the answer of a call of a thread is
abbrev pub sort_by : State → ℕ → CallValue → AnswerSort → Sort
sort_by s t c Same = Equal
sort_by s t c (Makes kind) = NewHandle kind
sort_by s t c Displays = SameHandle Display
sort_by s t c (Currents kind) = SameHandle (Handle kind)
sort_by s t c ConfigLists = ConfigList
sort_by s t c ConfigAttributes = config_attribute (number c ATTRIBUTE)
sort_by s t c Attributes = attribute_sort (number c ATTRIBUTE)
sort_by s t c (MakesNames kind) = NewNames kind
sort_by s t c (FreesNames kind) = FreedNames kind
sort_by s t c Bindings = binding (number c PNAME)
sort_by s t c Attachments = attachment (option_and_then (λ n. attachment_of s n c) (current_context s t)) (number c ATTACHMENT_PNAME)
sort_by s t c Reads = PixelBytes

unfoldable pub sort_of : State → ℕ → CallValue → Sort
sort_of s t c = sort_by s t c (answers c.kind)
