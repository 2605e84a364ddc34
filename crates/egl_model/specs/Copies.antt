-- Pixels that are copied into textures (OpenGL ES 1.1, section 3.7.2).
use Rattle.std.specs.Prelude.{ℕ, ◌*◌, Bool, ◌||◌, ◌==◌, List, if◌then◌else◌, min, unwrap_or, Option, None, Some}
use Rattle.std.specs.Option.{option_and_then}
use Rattle.egl_calls.specs.Calls.{CallValue}
use Rattle.egl_calls.specs.Arguments.{number, signed}
use Rattle.egl_calls.specs.declared.places.TheConstants.{COPIED_HEIGHT, COPIED_PART_HEIGHT, COPIED_PART_WIDTH, COPIED_PART_X, COPIED_PART_Y, COPIED_WIDTH, COPIED_X, COPIED_Y, INTERNAL_FORMAT, X_OFFSET, Y_OFFSET}
use Rattle.egl_names.specs.declared.codes.TheConstants.{GL_UNSIGNED_BYTE}
use Rattle.pixel_formats.specs.Formats.{bytes_of}
use Rattle.pixel_formats.specs.declared.formats.Format.{Format}
use Rattle.pixel_formats.specs.declared.formats.Format.TheVariants.{Rgba8888}
use Rattle.pixel_rows.specs.Images.{ImageValue}
use Rattle.pixel_rows.specs.declared.rects.Rect.{Rect}
use Rattle.texture_objects.specs.Forms.{form_of}
use Rattle.driver_objects.specs.Storages.{StorageValue, copied_image, recopied_storage, stored}
use Rattle.driver_objects.specs.declared.objects.Object.{Object}
use Rattle.egl_model.specs.State.{State}
use Rattle.egl_model.specs.Framebuffers.{bound_framebuffer}
use Rattle.egl_model.specs.Objects.{change_storage, storage_in}
use Rattle.egl_model.specs.Textures.{level_of, level_storage, specified, target_texture}

-- the pixels of a storage, where they aren't out of the driver
abbrev pub pixels_of : List (Option Object) → Option ℕ → Option ImageValue
pixels_of os o = option_and_then (λ v. v.image) (option_and_then (storage_in os) o)

-- the pixels that a thread reads
abbrev pub read_image : State → ℕ → Option ImageValue
read_image s t = pixels_of s.objects (bound_framebuffer s t).read

-- ---- glCopyTexImage2D.
-- a base format, a byte for each component
abbrev pub copied_format : CallValue → Format
copied_format c = unwrap_or (form_of (number c INTERNAL_FORMAT) GL_UNSIGNED_BYTE) Rgba8888

abbrev pub copied_bytes : CallValue → ℕ
copied_bytes c = min (number c COPIED_WIDTH) 1024 * min (number c COPIED_HEIGHT) 1024 * bytes_of (copied_format c)

-- the rectangle that is read
abbrev pub copied_rect : CallValue → Rect
copied_rect c = record { x = signed c COPIED_X; y = signed c COPIED_Y; w = signed c COPIED_WIDTH; h = signed c COPIED_HEIGHT }

abbrev pub copies_nothing : CallValue → Bool
copies_nothing c = (number c COPIED_WIDTH == 0) || (number c COPIED_HEIGHT == 0)

-- the new pixels of a level
abbrev pub copied_level : CallValue → ImageValue → StorageValue
copied_level c i = stored (copied_image (copied_format c) i (copied_rect c))

abbrev pub copied_from : Option ImageValue → CallValue → Option ℕ → State → State
copied_from (Some i) c o s = specified (level_of c) (Some (copied_level c i)) o s
copied_from None c o s = s

-- a level of the texture on which calls work has what a thread reads; one with a side of 0 has no storage
abbrev pub copied : State → ℕ → ℕ → CallValue → State
copied s t n c = if copies_nothing c then specified (level_of c) None (target_texture s n) s else copied_from (read_image s t) c (target_texture s n) s

-- ---- glCopyTexSubImage2D.
-- the rectangle that is read
abbrev pub copied_part_rect : CallValue → Rect
copied_part_rect c = record { x = signed c COPIED_PART_X; y = signed c COPIED_PART_Y; w = signed c COPIED_PART_WIDTH; h = signed c COPIED_PART_HEIGHT }

-- a storage to a place of which pixels are copied
abbrev pub copied_part_from : Option ImageValue → CallValue → Option ℕ → State → State
copied_part_from i c (Some m) s = record s { objects = change_storage (recopied_storage (number c X_OFFSET) (number c Y_OFFSET) (copied_part_rect c) i) m s.objects }
copied_part_from i c None s = s

-- a part of a level of that texture has what a thread reads
abbrev pub copied_part : State → ℕ → ℕ → CallValue → State
copied_part s t n c = copied_part_from (read_image s t) c (level_storage s n (level_of c)) s
