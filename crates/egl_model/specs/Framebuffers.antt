-- Framebuffers (OES_framebuffer_object).
use Rattle.std.specs.Prelude.{ℕ, ℤ, pos, Bool, true, false, ◌==◌, List, if◌then◌else◌, is_some, slice_index_or, unwrap_or, Option, None, Some}
use Rattle.std.specs.Option.{option_and_then, option_map_or}
use Rattle.egl_calls.specs.Calls.{CallValue}
use Rattle.egl_calls.specs.declared.places.TheConstants.{ATTACHED_NAME, ATTACHMENT, ATTACHMENT_PNAME}
use Rattle.egl_names.specs.declared.codes.TheConstants.{GL_FRAMEBUFFER_ATTACHMENT_OBJECT_NAME_OES, GL_FRAMEBUFFER_COMPLETE_OES, GL_FRAMEBUFFER_UNDEFINED_OES, GL_NONE_OES, GL_RENDERBUFFER_OES, GL_TEXTURE}
use Rattle.context_state.specs.Parts.{PartValue}
use Rattle.framebuffer_objects.specs.Attachments.{attachment_point}
use Rattle.framebuffer_objects.specs.Completeness.{color_part, no_part, renderbuffer_part, status, unattachable}
use Rattle.framebuffer_objects.specs.Framebuffers.{FramebufferValue, at_point, fresh, object_of, with_point}
use Rattle.framebuffer_objects.specs.declared.completeness.Part.{Part}
use Rattle.framebuffer_objects.specs.declared.framebuffers.Attached.{Attached}
use Rattle.framebuffer_objects.specs.declared.points.Point.{Point}
use Rattle.framebuffer_objects.specs.declared.points.Point.TheVariants.{Depth, Stencil}
use Rattle.share_group.specs.declared.names.NameKind.{NameKind}
use Rattle.driver_objects.specs.Storages.{StorageValue}
use Rattle.driver_objects.specs.declared.objects.Object.{Object}
use Rattle.driver_objects.specs.declared.objects.Object.TheVariants.{Renderbuffer, Texture}
use Rattle.driver_objects.specs.declared.renderbuffers.BackedRenderbuffer.{BackedRenderbuffer}
use Rattle.egl_model.specs.State.{State, object_at}
use Rattle.egl_model.specs.Arguments.{number}
use Rattle.egl_model.specs.Currents.{current_context, draw_storage, part_of_context, read_storage}
use Rattle.egl_model.specs.Names.{group_of, object_named}
use Rattle.egl_model.specs.Objects.{change_framebuffer, context_in, framebuffer_in, renderbuffer_in, storage_in}
use Rattle.egl_model.specs.Textures.{pixels_at}

-- ---- The framebuffer on which calls work: what the context has bound.
abbrev pub target_framebuffer : State → ℕ → Option ℕ
target_framebuffer s n = option_and_then (λ x. x.bound.framebuffer) (context_in s.objects n)

abbrev pub framebuffer_of : State → ℕ → Option FramebufferValue
framebuffer_of s n = option_and_then (framebuffer_in s.objects) (target_framebuffer s n)

-- ---- What is attached.
-- the storage that is drawn to and read from: that of a texture's level 0, or a renderbuffer's
abbrev pub attached_storage : List (Option Object) → ℕ → Option ℕ
attached_storage os x = pixels_at 0 (slice_index_or os x None)

abbrev pub color_storage : List (Option Object) → FramebufferValue → Option ℕ
color_storage os f = option_and_then (attached_storage os) (object_of f.color)

-- what stands at the colour point, where it has storage or none
abbrev pub stored_part : Option StorageValue → Part
stored_part None = unattachable
stored_part (Some v) = color_part v.format v.width v.height

abbrev pub color_part_in : List (Option Object) → Option Attached → Part
color_part_in os None = no_part
color_part_in os (Some a) = stored_part (option_and_then (storage_in os) (attached_storage os a.object))

-- what stands at another point: a renderbuffer, or a texture, which may not be there
abbrev pub backed_part : Point → Option BackedRenderbuffer → Part
backed_part point None = unattachable
backed_part point (Some r) = renderbuffer_part point r.renderbuffer

abbrev pub part_in : Point → List (Option Object) → Option Attached → Part
part_in point os None = no_part
part_in point os (Some a) = backed_part point (renderbuffer_in os a.object)

abbrev pub status_in : List (Option Object) → FramebufferValue → ℕ
status_in os f = status (color_part_in os f.color) (part_in Depth os f.depth) (part_in Stencil os f.stencil)

-- ---- The framebuffer that is bound to a thread: the storages to which it draws and from which it reads, and the status.
pub record BoundFramebuffer : Type 0 where
  pub draw : Option ℕ
  pub read : Option ℕ
  pub status : ℕ

-- the window system's: the thread's surfaces, where it has any (OES_surfaceless_context)
abbrev pub window_status : Option ℕ → ℕ
window_status draw = if is_some draw then GL_FRAMEBUFFER_COMPLETE_OES else GL_FRAMEBUFFER_UNDEFINED_OES

abbrev pub window_framebuffer : State → ℕ → BoundFramebuffer
window_framebuffer s t = record { draw = draw_storage s t; read = read_storage s t; status = window_status (draw_storage s t) }

-- one of the context's: its colour attachment
abbrev pub object_framebuffer : List (Option Object) → FramebufferValue → BoundFramebuffer
object_framebuffer os f = record { draw = color_storage os f; read = color_storage os f; status = status_in os f }

-- the name that a context has bound, and 0 for the framebuffer of the window system
abbrev pub framebuffer_name : Option PartValue → ℕ
framebuffer_name o = option_map_or (λ p. p.bound.framebuffer) o 0

abbrev pub current_framebuffer_name : State → ℕ → ℕ
current_framebuffer_name s t = framebuffer_name (option_and_then (part_of_context s) (current_context s t))

abbrev pub bound_framebuffer : State → ℕ → BoundFramebuffer
bound_framebuffer s t =
    if current_framebuffer_name s t == 0 then window_framebuffer s t
    else object_framebuffer s.objects (unwrap_or (option_and_then (framebuffer_of s) (current_context s t)) fresh)

abbrev pub is_complete : BoundFramebuffer → Bool
is_complete b = b.status == GL_FRAMEBUFFER_COMPLETE_OES

-- ---- glFramebufferTexture2DOES and glFramebufferRenderbufferOES.
-- the point that a call names
abbrev pub called_point : CallValue → Point
called_point c = attachment_point (number c ATTACHMENT)

-- a texture or a renderbuffer, as it is attached under a name; nothing else is
abbrev pub attached_as : ℕ → ℕ → Option Object → Option Attached
attached_as name x (Some (Texture t)) = Some (record { texture = true; name = name; object = x })
attached_as name x (Some (Renderbuffer r)) = Some (record { texture = false; name = name; object = x })
attached_as name x o = None

-- what has the name is attached under it; 0 has no object, and detaches
abbrev pub given_attachment : NameKind → State → ℕ → CallValue → Option Attached
given_attachment k s n c = option_and_then (λ x. attached_as (number c ATTACHED_NAME) x (object_at s x)) (object_named s (group_of s n) k (number c ATTACHED_NAME))

abbrev pub attached : Point → Option Attached → Option ℕ → State → State
attached point a None s = s
attached point a (Some b) s = record s { objects = change_framebuffer (with_point point a) b s.objects }

-- ---- glGetFramebufferAttachmentParameterivOES.
abbrev pub attachment_of : State → ℕ → CallValue → Option Attached
attachment_of s n c = option_and_then (at_point (called_point c)) (framebuffer_of s n)

abbrev pub attached_type : Option Attached → ℕ
attached_type None = GL_NONE_OES
attached_type (Some a) = if a.texture then GL_TEXTURE else GL_RENDERBUFFER_OES

abbrev pub attachment_parameter : CallValue → Option Attached → ℤ
attachment_parameter c a = pos (if number c ATTACHMENT_PNAME == GL_FRAMEBUFFER_ATTACHMENT_OBJECT_NAME_OES then option_map_or (λ x. x.name) a 0 else attached_type a)
