-- Pixels that glTexImage2D and glTexSubImage2D give (OpenGL ES 1.1, "Texture Image Specification" and "Alternate
-- Texture Image Specification Commands").
use Rattle.std.specs.Prelude.{◌≡◌, ℕ, ℤ, pos, ◌≤ℤ◌, List, [], IsSome, slice_index_or, unwrap_or}
use Rattle.std.specs.declared.option.Option.{Option}
use Rattle.std.specs.declared.option.Option.TheVariants.{None, Some}
use Rattle.egl_calls.specs.Calls.{CallValue}
use Rattle.egl_calls.specs.Ranges.{unsigned}
use Rattle.egl_calls.specs.declared.kinds.Kind.TheVariants.{Gl}
use Rattle.egl_calls.specs.declared.kinds.GlKind.TheVariants.{TexImage2d, TexSubImage2d}
use Rattle.pixel_formats.specs.declared.formats.Format.{Format}
use Rattle.pixel_formats.specs.declared.formats.Format.TheVariants.{Rgba8888}
use Rattle.pixel_rows.specs.Images.{ImageValue, blank}
use Rattle.pixel_rows.specs.Payloads.{loaded}
use Rattle.pixel_rows.specs.Rects.{IsInside}
use Rattle.pixel_rows.specs.declared.rects.Rect.{Rect}
use Rattle.texture_objects.specs.Forms.{form_of}

-- the number at a place of a call
abbrev pub signed : CallValue → ℕ → ℤ
signed c k = slice_index_or c.args k (pos 0)

-- the form of a call's data. Both calls have the format at place 6 and the type at 7
abbrev pub given_form : CallValue → Option Format
given_form c = form_of (unsigned (signed c 6)) (unsigned (signed c 7))

-- the same where the two go together
abbrev pub data_form : CallValue → Format
data_form c = unwrap_or (given_form c) Rgba8888

-- the bytes of a call; the null pointer gives none
abbrev pub given : Option (List ℕ) → List ℕ
given (Some bytes) = bytes
given None = []

-- the whole of the image that glTexImage2D makes
abbrev pub whole_rect : CallValue → Rect
whole_rect c = record { x = pos 0; y = pos 0; w = signed c 3; h = signed c 4 }

-- the part that glTexSubImage2D writes
abbrev pub part_rect : CallValue → Rect
part_rect c = record { x = signed c 2; y = signed c 3; w = signed c 4; h = signed c 5 }

-- a side that a texture may have
pub record IsSide (z : ℤ) : Type 0 where
  pub low : pos 0 ≤ℤ z
  pub high : z ≤ℤ pos 1024

-- a glTexImage2D of a form, with sides of a texture
pub record IsImageCall (c : CallValue) : Type 0 where
  pub kind : c.kind ≡ Gl TexImage2d
  pub form : IsSome (given_form c)
  pub width : IsSide (signed c 3)
  pub height : IsSide (signed c 4)

-- a glTexSubImage2D of a form, into a part of an image
pub record IsPartCall (c : CallValue) (v : ImageValue) : Type 0 where
  pub kind : c.kind ≡ Gl TexSubImage2d
  pub form : IsSome (given_form c)
  pub inside : IsInside (part_rect c) v.width v.height

-- the image of a glTexImage2D: it stores its data's form
abbrev pub uploaded : CallValue → ℕ → ImageValue
uploaded c align =
    loaded (blank (data_form c) (unsigned (signed c 3)) (unsigned (signed c 4))) (whole_rect c) (given c.bytes) (data_form c) align

-- an image once a glTexSubImage2D has written a part of it, whose data is converted to the image's format
abbrev pub rewritten : CallValue → ℕ → ImageValue → ImageValue
rewritten c align v = loaded v (part_rect c) (given c.bytes) (data_form c) align
