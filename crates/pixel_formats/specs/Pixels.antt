-- Pixels packed, read and rounded to a format.
use Rattle.std.specs.Prelude.{ℕ, ℤ, ◌+◌, ◌*◌, ◌/◌, ◌%◌, ◌^◌, ◌==◌, List, if◌then◌else◌}
use Rattle.std.specs.Int.{to_le_bytes, from_le_bytes, w32}
use Rattle.pixel_formats.specs.Components.{widen, clear_value}
use Rattle.pixel_formats.specs.Formats.{layout_of, is_luminance}
use Rattle.pixel_formats.specs.declared.formats.Format.{Format}
use Rattle.pixel_formats.specs.declared.formats.Layout.{Layout}
use Rattle.pixel_formats.specs.declared.formats.Place.{Place}
use Rattle.pixel_formats.specs.declared.pixels.Components.{Components}
use Rattle.pixel_formats.specs.declared.pixels.Pixel.{Pixel}

-- the components of a pixel of 8 bits each, in the bits of a layout
abbrev pub narrowed : Layout → Pixel → Components
narrowed t p = record {
  r = widen p.r 8 t.r.bits;
  g = widen p.g 8 t.g.bits;
  b = widen p.b 8 t.b.bits;
  a = widen p.a 8 t.a.bits;
}

-- a fixed-point colour in the bits of a layout
abbrev pub cleared : Layout → ℤ → ℤ → ℤ → ℤ → Components
cleared t r g b a = record {
  r = clear_value r t.r.bits;
  g = clear_value g t.g.bits;
  b = clear_value b t.b.bits;
  a = clear_value a t.a.bits;
}

-- the packed number of components: each at its place
abbrev pub number : Layout → Components → ℕ
number t c = c.r * 2 ^ t.r.low + c.g * 2 ^ t.g.low + c.b * 2 ^ t.b.low + c.a * 2 ^ t.a.low

-- the component at a place of a packed number
abbrev pub field : ℕ → Place → ℕ
field n at = n / 2 ^ at.low % 2 ^ at.bits

-- the components of a packed number
abbrev pub fields : Layout → ℕ → Components
fields t n = record { r = field n t.r; g = field n t.g; b = field n t.b; a = field n t.a }

-- a kept component widened to 8 bits, and what a missing one reads as
abbrev pub component : Place → ℕ → ℕ → ℕ
component at missing c = if at.bits == 0 then missing else widen c at.bits 8

-- what stored components read as: a missing colour is 0, a missing alpha 255, and a luminance is equal red, green and blue
abbrev pub reading : Layout → Components → Pixel
reading t c = record {
  r = component t.r 0 c.r;
  g = if is_luminance t.base then component t.r 0 c.r else component t.g 0 c.g;
  b = if is_luminance t.base then component t.r 0 c.r else component t.b 0 c.b;
  a = component t.a 255 c.a;
}

-- four bytes of a packed pixel, the low byte first, as a pixel of 8 bits a component
unfoldable pub unpack : Format → List ℕ → Pixel
unpack f bytes = reading (layout_of f) (fields (layout_of f) (from_le_bytes w32 bytes))

-- a pixel packed by a layout into four bytes, the low byte first and those that the format does not use 0
unfoldable pub pack_in : Layout → Pixel → List ℕ
pack_in t p = to_le_bytes w32 (number t (narrowed t p))

-- a pixel packed in a format
unfoldable pub pack : Format → Pixel → List ℕ
pack f p = pack_in (layout_of f) p

-- what a pixel reads as once a format has kept it
unfoldable pub quantize : Format → Pixel → Pixel
quantize f p = reading (layout_of f) (narrowed (layout_of f) p)

-- what a pixel reads as once it was cleared to a fixed-point colour, converted directly to the format's bits
unfoldable pub clear_pixel : Format → ℤ → ℤ → ℤ → ℤ → Pixel
clear_pixel f r g b a = reading (layout_of f) (cleared (layout_of f) r g b a)
