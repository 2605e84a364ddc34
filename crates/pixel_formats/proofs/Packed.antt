-- Packed numbers give their components back, over the whole table.
use Rattle.std.proofs.Common.{◌≡◌, ◌<◌, ◌≤◌, ◌+◌, ◌*◌, ◌/◌, ◌%◌, ◌^◌, ◌∙◌, ℕ, [], ◌∷◌, zero, suc, get_or, ap, refl, arith}
use Rattle.std.specs.Prelude.{ℤ, pos, negsuc, take, replicate, ◌++◌, ◌-◌}
use Rattle.std.specs.Int.{to_le_bytes, from_le_bytes, w32}
use Rattle.std.proofs.lemmas.Nat.{from_le_bytes-to_le_bytes_4, le_bytes_4}
use Rattle.pixel_formats.specs.Bounds.{Fits, IsBytes}
use Rattle.pixel_formats.specs.Components.{clamped}
use Rattle.pixel_formats.specs.Formats.{layout_of, bytes_of}
use Rattle.pixel_formats.specs.Pixels.{fields, number, narrowed, reading, pack, pack_in, unpack, quantize, clear_pixel, cleared}
use Rattle.pixel_formats.specs.declared.formats.Format.{Format}
use Rattle.pixel_formats.specs.declared.formats.Format.TheVariants.{Rgb565, Rgb888, Rgba8888, Rgba4444, Rgba5551, A8, L8, La88}
use Rattle.pixel_formats.specs.declared.formats.Layout.{Layout}
use Rattle.pixel_formats.specs.declared.pixels.Components.{Components}
use Rattle.pixel_formats.specs.declared.pixels.Pixel.{Pixel}

abbrev pub made : ℕ → ℕ → ℕ → ℕ → Components
made r g b a = record { r = r; g = g; b = b; a = a }

pub same_components : (c d : Components) → c.r ≡ d.r → c.g ≡ d.g → c.b ≡ d.b → c.a ≡ d.a → c ≡ d
same_components c d r g b a =
    ap (λ x. made x c.g c.b c.a) r ∙ ap (λ x. made d.r x c.b c.a) g ∙ ap (λ x. made d.r d.g x c.a) b ∙ ap (λ x. made d.r d.g d.b x) a

-- the places of a format do not overlap
pub fields-number : (f : Format) (c : Components) → Fits (layout_of f) c → fields (layout_of f) (number (layout_of f) c) ≡ c
fields-number Rgb565 c h = same_components _ c (omega arith) (omega arith) (omega arith) (omega arith)
fields-number Rgb888 c h = same_components _ c (omega arith) (omega arith) (omega arith) (omega arith)
fields-number Rgba8888 c h = same_components _ c (omega arith) (omega arith) (omega arith) (omega arith)
fields-number Rgba4444 c h = same_components _ c (omega arith) (omega arith) (omega arith) (omega arith)
fields-number Rgba5551 c h = same_components _ c (omega arith) (omega arith) (omega arith) (omega arith)
fields-number A8 c h = same_components _ c (omega arith) (omega arith) (omega arith) (omega arith)
fields-number L8 c h = same_components _ c (omega arith) (omega arith) (omega arith) (omega arith)
fields-number La88 c h = same_components _ c (omega arith) (omega arith) (omega arith) (omega arith)

-- and lie in the format's bytes
pub number-below : (f : Format) (c : Components) → Fits (layout_of f) c → number (layout_of f) c < 2 ^ 32
number-below Rgb565 c h = omega arith
number-below Rgb888 c h = omega arith
number-below Rgba8888 c h = omega arith
number-below Rgba4444 c h = omega arith
number-below Rgba5551 c h = omega arith
number-below A8 c h = omega arith
number-below L8 c h = omega arith
number-below La88 c h = omega arith

-- components in the bits of a format fit them
pub narrowed-fits : (f : Format) (p : Pixel) → IsBytes p → Fits (layout_of f) (narrowed (layout_of f) p)
narrowed-fits Rgb565 p h = record { r = omega arith; g = omega arith; b = omega arith; a = omega arith }
narrowed-fits Rgb888 p h = record { r = omega arith; g = omega arith; b = omega arith; a = omega arith }
narrowed-fits Rgba8888 p h = record { r = omega arith; g = omega arith; b = omega arith; a = omega arith }
narrowed-fits Rgba4444 p h = record { r = omega arith; g = omega arith; b = omega arith; a = omega arith }
narrowed-fits Rgba5551 p h = record { r = omega arith; g = omega arith; b = omega arith; a = omega arith }
narrowed-fits A8 p h = record { r = omega arith; g = omega arith; b = omega arith; a = omega arith }
narrowed-fits L8 p h = record { r = omega arith; g = omega arith; b = omega arith; a = omega arith }
narrowed-fits La88 p h = record { r = omega arith; g = omega arith; b = omega arith; a = omega arith }

-- stored components are found again in what they read as
pub narrowed-reading : (f : Format) (c : Components) → Fits (layout_of f) c → narrowed (layout_of f) (reading (layout_of f) c) ≡ c
narrowed-reading Rgb565 c h = same_components _ c (omega arith) (omega arith) (omega arith) (omega arith)
narrowed-reading Rgb888 c h = same_components _ c (omega arith) (omega arith) (omega arith) (omega arith)
narrowed-reading Rgba8888 c h = same_components _ c (omega arith) (omega arith) (omega arith) (omega arith)
narrowed-reading Rgba4444 c h = same_components _ c (omega arith) (omega arith) (omega arith) (omega arith)
narrowed-reading Rgba5551 c h = same_components _ c (omega arith) (omega arith) (omega arith) (omega arith)
narrowed-reading A8 c h = same_components _ c (omega arith) (omega arith) (omega arith) (omega arith)
narrowed-reading L8 c h = same_components _ c (omega arith) (omega arith) (omega arith) (omega arith)
narrowed-reading La88 c h = same_components _ c (omega arith) (omega arith) (omega arith) (omega arith)

pub clamped-at_most : (c : ℤ) → clamped c ≤ 65536
clamped-at_most (pos n) = omega arith
clamped-at_most (negsuc n) = omega arith

-- a clear colour whose components are held between 0 and 1
abbrev pub at_bits : Layout → ℕ → ℕ → ℕ → ℕ → Components
at_bits t r g b a = record {
  r = (r * (2 ^ t.r.bits - 1) + 32768) / 65536;
  g = (g * (2 ^ t.g.bits - 1) + 32768) / 65536;
  b = (b * (2 ^ t.b.bits - 1) + 32768) / 65536;
  a = (a * (2 ^ t.a.bits - 1) + 32768) / 65536;
}

fits_each : (f : Format) (r g b a : ℕ) → r ≤ 65536 → g ≤ 65536 → b ≤ 65536 → a ≤ 65536 → Fits (layout_of f) (at_bits (layout_of f) r g b a)
fits_each Rgb565 r g b a h i j k = record { r = omega arith; g = omega arith; b = omega arith; a = omega arith }
fits_each Rgb888 r g b a h i j k = record { r = omega arith; g = omega arith; b = omega arith; a = omega arith }
fits_each Rgba8888 r g b a h i j k = record { r = omega arith; g = omega arith; b = omega arith; a = omega arith }
fits_each Rgba4444 r g b a h i j k = record { r = omega arith; g = omega arith; b = omega arith; a = omega arith }
fits_each Rgba5551 r g b a h i j k = record { r = omega arith; g = omega arith; b = omega arith; a = omega arith }
fits_each A8 r g b a h i j k = record { r = omega arith; g = omega arith; b = omega arith; a = omega arith }
fits_each L8 r g b a h i j k = record { r = omega arith; g = omega arith; b = omega arith; a = omega arith }
fits_each La88 r g b a h i j k = record { r = omega arith; g = omega arith; b = omega arith; a = omega arith }

-- so does a clear colour
pub cleared-fits : (f : Format) (r g b a : ℤ) → Fits (layout_of f) (cleared (layout_of f) r g b a)
cleared-fits f r g b a = fits_each f (clamped r) (clamped g) (clamped b) (clamped a) (clamped-at_most r) (clamped-at_most g) (clamped-at_most b) (clamped-at_most a)

-- the bytes of a format, and zeros, are the packed number of their own fields
pub number-fields : (f : Format) (n : ℕ) → n < 2 ^ 32 → number (layout_of f) (fields (layout_of f) n) ≡ n % 256 ^ bytes_of f
number-fields Rgb565 n h = omega arith
number-fields Rgb888 n h = omega arith
number-fields Rgba8888 n h = omega arith
number-fields Rgba4444 n h = omega arith
number-fields Rgba5551 n h = omega arith
number-fields A8 n h = omega arith
number-fields L8 n h = omega arith
number-fields La88 n h = omega arith

-- the fields of any number fit
pub fields-fits : (f : Format) (n : ℕ) → Fits (layout_of f) (fields (layout_of f) n)
fields-fits Rgb565 n = record { r = omega arith; g = omega arith; b = omega arith; a = omega arith }
fields-fits Rgb888 n = record { r = omega arith; g = omega arith; b = omega arith; a = omega arith }
fields-fits Rgba8888 n = record { r = omega arith; g = omega arith; b = omega arith; a = omega arith }
fields-fits Rgba4444 n = record { r = omega arith; g = omega arith; b = omega arith; a = omega arith }
fields-fits Rgba5551 n = record { r = omega arith; g = omega arith; b = omega arith; a = omega arith }
fields-fits A8 n = record { r = omega arith; g = omega arith; b = omega arith; a = omega arith }
fields-fits L8 n = record { r = omega arith; g = omega arith; b = omega arith; a = omega arith }
fields-fits La88 n = record { r = omega arith; g = omega arith; b = omega arith; a = omega arith }

pub four_small : (x y z w : ℕ) → x < 256 → y < 256 → z < 256 → w < 256 → (i : ℕ) → get_or (x ∷ y ∷ z ∷ w ∷ []) i 0 < 256
four_small x y z w a b c d zero = a
four_small x y z w a b c d (suc zero) = b
four_small x y z w a b c d (suc (suc zero)) = c
four_small x y z w a b c d (suc (suc (suc zero))) = d
four_small x y z w a b c d (suc (suc (suc (suc i)))) = omega arith

-- the low bytes of a number of four bytes, and zeros
pub low_bytes : (f : Format) (x y z w : ℕ) → x < 256 → y < 256 → z < 256 → w < 256 →
    to_le_bytes w32 (from_le_bytes w32 (x ∷ y ∷ z ∷ w ∷ []) % 256 ^ bytes_of f) ≡ take (bytes_of f) (x ∷ y ∷ z ∷ w ∷ []) ++ replicate (4 - bytes_of f) 0
low_bytes Rgb565 x y z w a b c d = le_bytes_4 (x ∷ y ∷ 0 ∷ 0 ∷ []) _ refl (four_small x y 0 0 (omega arith) (omega arith) (omega arith) (omega arith)) (omega arith)
low_bytes Rgb888 x y z w a b c d = le_bytes_4 (x ∷ y ∷ z ∷ 0 ∷ []) _ refl (four_small x y z 0 (omega arith) (omega arith) (omega arith) (omega arith)) (omega arith)
low_bytes Rgba8888 x y z w a b c d = le_bytes_4 (x ∷ y ∷ z ∷ w ∷ []) _ refl (four_small x y z w (omega arith) (omega arith) (omega arith) (omega arith)) (omega arith)
low_bytes Rgba4444 x y z w a b c d = le_bytes_4 (x ∷ y ∷ 0 ∷ 0 ∷ []) _ refl (four_small x y 0 0 (omega arith) (omega arith) (omega arith) (omega arith)) (omega arith)
low_bytes Rgba5551 x y z w a b c d = le_bytes_4 (x ∷ y ∷ 0 ∷ 0 ∷ []) _ refl (four_small x y 0 0 (omega arith) (omega arith) (omega arith) (omega arith)) (omega arith)
low_bytes A8 x y z w a b c d = le_bytes_4 (x ∷ 0 ∷ 0 ∷ 0 ∷ []) _ refl (four_small x 0 0 0 (omega arith) (omega arith) (omega arith) (omega arith)) (omega arith)
low_bytes L8 x y z w a b c d = le_bytes_4 (x ∷ 0 ∷ 0 ∷ 0 ∷ []) _ refl (four_small x 0 0 0 (omega arith) (omega arith) (omega arith) (omega arith)) (omega arith)
low_bytes La88 x y z w a b c d = le_bytes_4 (x ∷ y ∷ 0 ∷ 0 ∷ []) _ refl (four_small x y 0 0 (omega arith) (omega arith) (omega arith) (omega arith)) (omega arith)

-- the laws
pub unpack-pack : (f : Format) (p : Pixel) → IsBytes p → unpack f (pack f p) ≡ quantize f p
unfolding unpack pack pack_in quantize
unpack-pack f p h =
    let k = narrowed-fits f p h in
    ap (λ n. reading (layout_of f) (fields (layout_of f) n)) (from_le_bytes-to_le_bytes_4 _ (number-below f _ k))
    ∙ ap (reading (layout_of f)) (fields-number f _ k)

pub quantize-quantize : (f : Format) (p : Pixel) → IsBytes p → quantize f (quantize f p) ≡ quantize f p
unfolding quantize
quantize-quantize f p h = ap (reading (layout_of f)) (narrowed-reading f _ (narrowed-fits f p h))

pub pack-quantize : (f : Format) (p : Pixel) → IsBytes p → pack f (quantize f p) ≡ pack f p
unfolding pack pack_in quantize
pack-quantize f p h = ap (λ c. to_le_bytes w32 (number (layout_of f) c)) (narrowed-reading f _ (narrowed-fits f p h))

pub quantize-clear_pixel : (f : Format) (r g b a : ℤ) → quantize f (clear_pixel f r g b a) ≡ clear_pixel f r g b a
unfolding quantize clear_pixel
quantize-clear_pixel f r g b a = ap (reading (layout_of f)) (narrowed-reading f _ (cleared-fits f r g b a))

pub pack-unpack : (f : Format) (x y z w : ℕ) → x < 256 → y < 256 → z < 256 → w < 256 →
    pack f (unpack f (x ∷ y ∷ z ∷ w ∷ [])) ≡ take (bytes_of f) (x ∷ y ∷ z ∷ w ∷ []) ++ replicate (4 - bytes_of f) 0
unfolding pack pack_in unpack
pack-unpack f x y z w a b c d =
    let n = from_le_bytes w32 (x ∷ y ∷ z ∷ w ∷ []) in
    let below : from_le_bytes w32 (x ∷ y ∷ z ∷ w ∷ []) < 2 ^ 32 = omega arith in
    ap (λ e. to_le_bytes w32 (number (layout_of f) e)) (narrowed-reading f _ (fields-fits f n))
    ∙ ap (to_le_bytes w32) (number-fields f n below)
    ∙ low_bytes f x y z w a b c d
