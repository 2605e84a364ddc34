-- What holds between packing, reading and converting.
use Rattle.std.specs.Prelude.{◌≡◌, ℕ, ℤ, ◌<◌, ◌-◌, ◌^◌, [], ◌∷◌, ◌++◌, take, replicate, Contains}
use Rattle.pixel_formats.specs.Bounds.{IsBytes}
use Rattle.pixel_formats.specs.Components.{widen}
use Rattle.pixel_formats.specs.Formats.{bytes_of}
use Rattle.pixel_formats.specs.Pixels.{unpack, pack, quantize, clear_pixel}
use Rattle.pixel_formats.specs.Sizes.{kept_sizes}
use Rattle.pixel_formats.specs.declared.formats.Format.{Format}
use Rattle.pixel_formats.specs.declared.pixels.Pixel.{Pixel}

-- what is packed reads back as the pixel rounded to the format
abbrev pub PackingKeeps : Type 0
PackingKeeps = (f : Format) (p : Pixel) → IsBytes p → unpack f (pack f p) ≡ quantize f p

-- what is read packs to the format's own bytes again, with zeros after them
abbrev pub ReadingKeeps : Type 0
ReadingKeeps = (f : Format) (x y z w : ℕ) → x < 256 → y < 256 → z < 256 → w < 256 →
    pack f (unpack f (x ∷ y ∷ z ∷ w ∷ [])) ≡ take (bytes_of f) (x ∷ y ∷ z ∷ w ∷ []) ++ replicate (4 - bytes_of f) 0

-- a pixel that was rounded is not changed by rounding it again
abbrev pub RoundsOnce : Type 0
RoundsOnce = (f : Format) (p : Pixel) → IsBytes p → quantize f (quantize f p) ≡ quantize f p

-- rounding a pixel first does not change what it packs to
abbrev pub PacksRounded : Type 0
PacksRounded = (f : Format) (p : Pixel) → IsBytes p → pack f (quantize f p) ≡ pack f p

-- the pixel of a clear colour is stored as it is
abbrev pub KeepsClearColour : Type 0
KeepsClearColour = (f : Format) (r g b a : ℤ) → quantize f (clear_pixel f r g b a) ≡ clear_pixel f r g b a

-- between the sizes that formats keep, a conversion by way of 8 bits is the direct one
abbrev pub ConvertsDirectly : Type 0
ConvertsDirectly = (from to c : ℕ) → Contains kept_sizes from → Contains kept_sizes to → c < 2 ^ from →
    widen (widen c from 8) 8 to ≡ widen c from to
