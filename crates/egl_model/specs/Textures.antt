-- Textures (OpenGL ES 1.1, section 3.7).
use Rattle.std.specs.Prelude.{ℕ, ◌*◌, ℤ, Bool, ◌||◌, ◌==◌, List, [], ◌∷◌, ◌++◌, length, min, if◌then◌else◌, slice_index_or, slice_set, unwrap_or, Option, None, Some}
use Rattle.std.specs.Option.{option_and_then, option_map, option_map_or}
use Rattle.egl_calls.specs.Calls.{CallValue}
use Rattle.egl_calls.specs.declared.places.TheConstants.{IMAGE_HEIGHT, IMAGE_WIDTH, LEVEL}
use Rattle.pixel_formats.specs.Formats.{bytes_of}
use Rattle.pixel_rows.specs.Images.{frozen}
use Rattle.texture_objects.specs.Textures.{with_parameter}
use Rattle.texture_objects.specs.Uploads.{data_form, uploaded}
use Rattle.driver_objects.specs.Storages.{StorageValue, rewritten_storage, stored}
use Rattle.driver_objects.specs.declared.textures.BackedTexture.{BackedTexture}
use Rattle.driver_objects.specs.declared.objects.Object.{Object}
use Rattle.driver_objects.specs.declared.objects.Object.TheVariants.{Renderbuffer, Storage, Texture}
use Rattle.egl_model.specs.State.{State}
use Rattle.egl_model.specs.Arguments.{number}
use Rattle.egl_model.specs.Currents.{part_of_context}
use Rattle.egl_model.specs.Objects.{change_storage, change_texture, context_in, texture_in}

-- ---- The texture on which calls work: what the context has bound, or its texture 0.
abbrev pub target_texture : State → ℕ → Option ℕ
target_texture s n = option_map (λ c. unwrap_or c.bound.texture c.texture) (context_in s.objects n)

-- glTexParameterx
abbrev pub with_value : ℕ → ℕ → BackedTexture → BackedTexture
with_value pname value x = record x { texture = unwrap_or (with_parameter pname value x.texture) x.texture }

abbrev pub set_parameter : ℕ → ℕ → Option ℕ → State → State
set_parameter pname value None s = s
set_parameter pname value (Some x) s = record s { objects = change_texture (with_value pname value) x s.objects }

-- glTexParameteriv: left, bottom, width and height of the crop rectangle
abbrev pub with_crop : List ℤ → BackedTexture → BackedTexture
with_crop xs x = record x { texture = record x.texture { crop = xs } }

abbrev pub set_crop : List ℤ → Option ℕ → State → State
set_crop xs None s = s
set_crop xs (Some x) s = record s { objects = change_texture (with_crop xs) x s.objects }

-- ---- Pixels that are given.
abbrev pub level_of : CallValue → ℕ
level_of c = number c LEVEL

-- the GL_UNPACK_ALIGNMENT of a context, to which their rows are aligned (section 3.6.1)
abbrev pub unpack_alignment : State → ℕ → ℕ
unpack_alignment s n = option_map_or (λ p. p.unpack_alignment) (part_of_context s n) 4

-- ---- glTexImage2D.
abbrev pub image_bytes : CallValue → ℕ
image_bytes c = min (number c IMAGE_WIDTH) 1024 * min (number c IMAGE_HEIGHT) 1024 * bytes_of (data_form c)

abbrev pub has_no_side : CallValue → Bool
has_no_side c = (number c IMAGE_WIDTH == 0) || (number c IMAGE_HEIGHT == 0)

-- the pixels of a level are frozen; one with a side of 0 has no storage
abbrev pub new_level : CallValue → ℕ → Option StorageValue
new_level c align = if has_no_side c then None else Some (stored (frozen (uploaded c align)))

-- a texture with a storage at a level, or with none there
abbrev pub with_level : ℕ → Option ℕ → BackedTexture → BackedTexture
with_level k o x = record x { levels = slice_set x.levels k o }

-- the same of any object that has pixels: a renderbuffer has them at 0 alone
abbrev pub with_pixels : ℕ → Option ℕ → Option Object → Option Object
with_pixels k o (Some (Texture x)) = Some (Texture (with_level k o x))
with_pixels k o (Some (Renderbuffer r)) = Some (Renderbuffer (record r { storage = o }))
with_pixels k o x = x

unfoldable pub change_pixels : ℕ → Option ℕ → ℕ → List (Option Object) → List (Option Object)
change_pixels k o n os = slice_set os n (with_pixels k o (slice_index_or os n None))

-- a level of a texture, or a renderbuffer, loses its storage or has a new one
abbrev pub specified_in : ℕ → Option StorageValue → ℕ → List (Option Object) → List (Option Object)
specified_in k None x os = change_pixels k None x os
specified_in k (Some v) x os = change_pixels k (Some (length os)) x (os ++ Some (Storage v) ∷ [])

abbrev pub specified : ℕ → Option StorageValue → Option ℕ → State → State
specified k v None s = s
specified k v (Some x) s = record s { objects = specified_in k v x s.objects }

-- ---- glTexSubImage2D.
-- the storage of a level of a texture
abbrev pub storage_at : ℕ → BackedTexture → Option ℕ
storage_at k x = slice_index_or x.levels k None

-- the same of any object that has pixels
abbrev pub pixels_at : ℕ → Option Object → Option ℕ
pixels_at k (Some (Texture x)) = storage_at k x
pixels_at k (Some (Renderbuffer r)) = if k == 0 then r.storage else None
pixels_at k o = None

-- the storage of a level of the texture on which calls work
abbrev pub level_storage : State → ℕ → ℕ → Option ℕ
level_storage s n k = option_and_then (storage_at k) (option_and_then (texture_in s.objects) (target_texture s n))

-- a part of its pixels is written
abbrev pub rewritten_part : CallValue → ℕ → Option ℕ → State → State
rewritten_part c align None s = s
rewritten_part c align (Some n) s = record s { objects = change_storage (rewritten_storage c align) n s.objects }
