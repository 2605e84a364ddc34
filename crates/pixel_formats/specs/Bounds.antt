-- The bounds that hold over the whole table.
use Rattle.std.specs.Prelude.{◌≤◌, ◌<◌, ◌^◌}
use Rattle.pixel_formats.specs.declared.formats.Layout.{Layout}
use Rattle.pixel_formats.specs.declared.formats.Place.{Place}
use Rattle.pixel_formats.specs.declared.pixels.Components.{Components}
use Rattle.pixel_formats.specs.declared.pixels.Pixel.{Pixel}

-- a component of at most 8 bits, in the four bytes of a packed pixel
pub record IsBytePlace (at : Place) : Type 0 where
  pub low : at.low ≤ 24
  pub bits : at.bits ≤ 8

-- a pixel of one to four bytes, and each component in them
pub record IsWithinFour (t : Layout) : Type 0 where
  pub some : 1 ≤ t.bytes
  pub four : t.bytes ≤ 4
  pub r : IsBytePlace t.r
  pub g : IsBytePlace t.g
  pub b : IsBytePlace t.b
  pub a : IsBytePlace t.a

-- each component fits its bits
pub record Fits (t : Layout) (c : Components) : Type 0 where
  pub r : c.r < 2 ^ t.r.bits
  pub g : c.g < 2 ^ t.g.bits
  pub b : c.b < 2 ^ t.b.bits
  pub a : c.a < 2 ^ t.a.bits

-- each component of a pixel is a byte
pub record IsBytes (p : Pixel) : Type 0 where
  pub r : p.r < 256
  pub g : p.g < 256
  pub b : p.b < 256
  pub a : p.a < 256
