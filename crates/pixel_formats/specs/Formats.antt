-- The table of the storage formats.
use Rattle.std.specs.Prelude.{ℕ, Bool, true, false}
use Rattle.pixel_formats.specs.declared.formats.Base.{Base}
use Rattle.pixel_formats.specs.declared.formats.Base.TheVariants.{Rgb, Rgba, Alpha, Luminance, LuminanceAlpha}
use Rattle.pixel_formats.specs.declared.formats.Format.{Format}
use Rattle.pixel_formats.specs.declared.formats.Format.TheVariants.{Rgb565, Rgb888, Rgba8888, Rgba4444, Rgba5551, A8, L8, La88}
use Rattle.pixel_formats.specs.declared.formats.Layout.{Layout}
use Rattle.pixel_formats.specs.declared.formats.Place.{Place}

-- `bits` bits, from bit `low` of the packed number upward
abbrev pub at : ℕ → ℕ → Place
at low bits = record { low = low; bits = bits }

-- the place of a component that a format does not keep
abbrev pub absent : Place
absent = at 0 0

abbrev pub row : Base → ℕ → Place → Place → Place → Place → Layout
row base bytes r g b a = record { base = base; bytes = bytes; r = r; g = g; b = b; a = a }

-- the table: base format, bytes of a pixel, and where red or luminance, green, blue and alpha stand
abbrev pub layout_of : Format → Layout
layout_of Rgb565 = row Rgb 2 (at 11 5) (at 5 6) (at 0 5) absent
layout_of Rgb888 = row Rgb 3 (at 0 8) (at 8 8) (at 16 8) absent
layout_of Rgba8888 = row Rgba 4 (at 0 8) (at 8 8) (at 16 8) (at 24 8)
layout_of Rgba4444 = row Rgba 2 (at 12 4) (at 8 4) (at 4 4) (at 0 4)
layout_of Rgba5551 = row Rgba 2 (at 11 5) (at 6 5) (at 1 5) (at 0 1)
layout_of A8 = row Alpha 1 absent absent absent (at 0 8)
layout_of L8 = row Luminance 1 (at 0 8) absent absent absent
layout_of La88 = row LuminanceAlpha 2 (at 0 8) absent absent (at 8 8)

-- how many bytes a pixel of the format takes
abbrev pub bytes_of : Format → ℕ
bytes_of f = (layout_of f).bytes

-- whether a base format has one luminance in place of three colours
abbrev pub is_luminance : Base → Bool
is_luminance Rgb = false
is_luminance Rgba = false
is_luminance Alpha = false
is_luminance Luminance = true
is_luminance LuminanceAlpha = true

-- the base format of a storage format
abbrev pub base_of : Format → Base
base_of f = (layout_of f).base
