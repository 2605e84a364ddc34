-- Renderbuffers (OES_framebuffer_object).
use Rattle.std.specs.Prelude.{ℕ, ◌*◌, ◌==◌, ℤ, pos, min, if◌then◌else◌, Option, None, Some}
use Rattle.std.specs.Option.{option_and_then, option_map, option_map_or}
use Rattle.egl_calls.specs.Calls.{CallValue}
use Rattle.egl_calls.specs.declared.places.TheConstants.{BOUND_PNAME, STORED_FORMAT, STORED_HEIGHT, STORED_WIDTH}
use Rattle.egl_names.specs.declared.codes.TheConstants.{GL_RENDERBUFFER_WIDTH_OES}
use Rattle.pixel_formats.specs.Formats.{bytes_of}
use Rattle.pixel_rows.specs.Images.{frozen}
use Rattle.framebuffer_objects.specs.InternalFormats.{format_of, point_of}
use Rattle.framebuffer_objects.specs.Renderbuffers.{RenderbufferValue, of_kind, pixels_of}
use Rattle.driver_objects.specs.Storages.{StorageValue, stored}
use Rattle.driver_objects.specs.declared.renderbuffers.BackedRenderbuffer.{BackedRenderbuffer}
use Rattle.egl_model.specs.State.{State}
use Rattle.egl_model.specs.Arguments.{number}
use Rattle.egl_model.specs.Objects.{change_renderbuffer, context_in, renderbuffer_in}
use Rattle.egl_model.specs.Textures.{specified_in}

-- ---- The renderbuffer on which calls work: what the context has bound.
abbrev pub target_renderbuffer : State → ℕ → Option ℕ
target_renderbuffer s n = option_and_then (λ x. x.bound.renderbuffer) (context_in s.objects n)

abbrev pub renderbuffer_of : State → ℕ → Option BackedRenderbuffer
renderbuffer_of s n = option_and_then (renderbuffer_in s.objects) (target_renderbuffer s n)

-- ---- glRenderbufferStorageOES.
abbrev pub renderbuffer_bytes : CallValue → ℕ
renderbuffer_bytes c = option_map_or (λ f. min (number c STORED_WIDTH) 2048 * min (number c STORED_HEIGHT) 2048 * bytes_of f) (format_of (number c STORED_FORMAT)) 0

-- its kind and its sides
abbrev pub new_kind : CallValue → RenderbufferValue
new_kind c = of_kind (point_of (number c STORED_FORMAT)) (number c STORED_WIDTH) (number c STORED_HEIGHT)

-- the pixels of a colour are zero and frozen; depth and stencil have none
abbrev pub new_pixels : CallValue → Option StorageValue
new_pixels c = option_map (λ i. stored (frozen i)) (pixels_of (number c STORED_FORMAT) (number c STORED_WIDTH) (number c STORED_HEIGHT))

abbrev pub with_kind : RenderbufferValue → BackedRenderbuffer → BackedRenderbuffer
with_kind r x = record x { renderbuffer = r }

-- a renderbuffer has another kind and other sides, and new pixels or none
abbrev pub stored_as : RenderbufferValue → Option StorageValue → Option ℕ → State → State
stored_as r v None s = s
stored_as r v (Some x) s = record s { objects = specified_in 0 v x (change_renderbuffer (with_kind r) x s.objects) }

-- ---- glGetRenderbufferParameterivOES: a side; 0 without storage.
abbrev pub side_of : ℕ → RenderbufferValue → ℕ
side_of pname r = if pname == GL_RENDERBUFFER_WIDTH_OES then r.width else r.height

abbrev pub renderbuffer_parameter : CallValue → Option BackedRenderbuffer → ℤ
renderbuffer_parameter c o = pos (option_map_or (λ x. side_of (number c BOUND_PNAME) x.renderbuffer) o 0)
