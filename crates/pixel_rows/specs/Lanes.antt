-- What the loops over bytes leave, byte by byte.
use Rattle.std.specs.Prelude.{ℕ, ◌+◌, ◌*◌, ◌/◌, List, [], ◌∷◌, bit_and, bit_or, if◌then◌else◌, replicate}
use Rattle.std.specs.List.{flat_map}
use Rattle.std.specs.Simd.Lanes.{zip2}
use Rattle.pixel_formats.specs.declared.pixels.Pixel.{Pixel}
use Rattle.pixel_rows.specs.declared.masks.Mask.{Mask}

-- the product of two components of 8 bits, rounded
abbrev pub product : ℕ → ℕ → ℕ
product a b = (2 * a * b + 255) / 510

-- the same with the second first
abbrev pub product_of : ℕ → ℕ → ℕ
product_of t f = product f t

-- each byte of a cell multiplied by that of another
abbrev pub multiplied : List ℕ → List ℕ → List ℕ
multiplied by cell = zip2 product_of cell by

-- each component of a pixel multiplied by that of a colour
abbrev pub scaled : Pixel → Pixel → Pixel
scaled by p = record { r = product by.r p.r; g = product by.g p.g; b = product by.b p.b; a = product by.a p.a }

-- of each byte of a cell the bits that are kept, and those that are put
abbrev pub kept_or_put : List ℕ → List ℕ → List ℕ → List ℕ
kept_or_put keep put cell = zip2 bit_or (zip2 bit_and cell keep) put

-- the bytes of a cell, four times
abbrev pub repeated : List ℕ → List ℕ
repeated cell = flat_map (λ c. c) (replicate 4 cell)

-- the bits that a write under a mask keeps of red, green, blue and alpha, a byte each
abbrev pub keeps : Mask → List ℕ
keeps m = (if m.r then 0 else 255) ∷ (if m.g then 0 else 255) ∷ (if m.b then 0 else 255) ∷ (if m.a then 0 else 255) ∷ []

-- and those that it puts there
abbrev pub puts : Mask → Pixel → List ℕ
puts m p = (if m.r then p.r else 0) ∷ (if m.g then p.g else 0) ∷ (if m.b then p.b else 0) ∷ (if m.a then p.a else 0) ∷ []

-- the bits that a write of a row of cells under a mask takes of them
abbrev pub takes : Mask → List ℕ
takes m = (if m.r then 255 else 0) ∷ (if m.g then 255 else 0) ∷ (if m.b then 255 else 0) ∷ (if m.a then 255 else 0) ∷ []

-- of each byte of a cell the bits that are kept, and those that are taken of another cell
abbrev pub laid : List ℕ → List ℕ → List ℕ → List ℕ → List ℕ
laid keep take new cell = zip2 bit_or (zip2 bit_and cell keep) (zip2 bit_and new take)

-- the bytes of a pixel, red first
abbrev pub bytes_in : Pixel → List ℕ
bytes_in p = p.r ∷ p.g ∷ p.b ∷ p.a ∷ []
