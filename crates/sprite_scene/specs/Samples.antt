-- What a draw shows of its atlas.
use Rattle.std.specs.Prelude.{ℕ, ◌+◌, ◌-◌, ◌*◌, ◌/◌, ℤ, pos, ◌+ℤ◌, ◌-ℤ◌, min, max, if◌then◌else◌, slice_index, Option, None, Some}
use Rattle.std.specs.Int.{int_div_euclid, int_rem_euclid}
use Rattle.egl_calls.specs.Ranges.{unsigned}
use Rattle.pixel_formats.specs.declared.pixels.Pixel.{Pixel}
use Rattle.pixel_rows.specs.Images.{no_pixel}
use Rattle.scene_reader.specs.declared.items.Atlas.{Atlas}
use Rattle.scene_reader.specs.declared.items.ScaledPart.{ScaledPart}
use Rattle.sprite_scene.specs.Draws.{Draw}
use Rattle.sprite_scene.specs.declared.mixing.Taps.{Taps}

-- the texel in a column and a row of an atlas
abbrev pub texel : Option Atlas → ℕ → ℕ → Pixel
texel None u v = no_pixel
texel (Some a) u v = record {
  r = slice_index a.texels (4 * (v * a.width + u));
  g = slice_index a.texels (4 * (v * a.width + u) + 1);
  b = slice_index a.texels (4 * (v * a.width + u) + 2);
  a = slice_index a.texels (4 * (v * a.width + u) + 3);
}

-- ---- A part of `size` texels from `start` on, over `drawn` pixels.
-- twice the place of the middle of pixel i, in parts of which a texel has twice as many as there are pixels
abbrev pub middle : ℕ → ℕ → ℕ → ℕ → ℕ
middle start size drawn i = 2 * drawn * start + (2 * i + 1) * size

-- the texel in which it lies
abbrev pub nearest : ℕ → ℕ → ℕ → ℕ → ℕ
nearest start size drawn i = middle start size drawn i / (2 * drawn)

-- the same place from the middle of a texel on
abbrev pub between : ℕ → ℕ → ℕ → ℕ → ℤ
between start size drawn i = pos (middle start size drawn i) -ℤ pos drawn

-- a texel held in the part
abbrev pub held : ℕ → ℕ → ℤ → ℕ
held start size z = max start (min (unsigned z) (start + size - 1))

-- the two texels between whose middles it lies, and how far the second weighs, of twice as many as there are pixels
abbrev pub taps : ℕ → ℕ → ℕ → ℕ → Taps
taps start size drawn i = record {
  first = held start size (int_div_euclid (between start size drawn i) (pos (2 * drawn)));
  second = held start size (int_div_euclid (between start size drawn i) (pos (2 * drawn)) +ℤ pos 1);
  weight = unsigned (int_rem_euclid (between start size drawn i) (pos (2 * drawn)));
}

-- a component of four texels, by their weights in a part that is drawn over w by h pixels
abbrev pub weighted : ℕ → ℕ → ℕ → ℕ → ℕ → ℕ → ℕ → ℕ → ℕ
weighted w h f g a b c d = (2 * w - f) * ((2 * h - g) * a + g * c) + f * ((2 * h - g) * b + g * d)

-- a sum of weights 4 * w * h, as the nearest whole component
abbrev pub rounded : ℕ → ℕ → ℕ → ℕ
rounded w h m = (2 * m + 4 * w * h) / (2 * (4 * w * h))

abbrev pub mixed : ℕ → ℕ → ℕ → ℕ → Pixel → Pixel → Pixel → Pixel → Pixel
mixed w h f g a b c d = record {
  r = rounded w h (weighted w h f g a.r b.r c.r d.r);
  g = rounded w h (weighted w h f g a.g b.g c.g d.g);
  b = rounded w h (weighted w h f g a.b b.b c.b d.b);
  a = rounded w h (weighted w h f g a.a b.a c.a d.a);
}

abbrev pub blended : ScaledPart → Option Atlas → Taps → Taps → Pixel
blended s o c r =
    mixed s.width s.height c.weight r.weight (texel o c.first r.first) (texel o c.second r.first) (texel o c.first r.second) (texel o c.second r.second)

-- ---- The pixel in column i and row j of a draw.
abbrev pub sharp_at : Option Atlas → ScaledPart → ℕ → ℕ → Pixel
sharp_at o s i j = texel o (nearest s.part.u s.part.width s.width i) (nearest s.part.v s.part.height s.height j)

unfoldable pub smooth_at : Option Atlas → ScaledPart → ℕ → ℕ → Pixel
smooth_at o s i j = blended s o (taps s.part.u s.part.width s.width i) (taps s.part.v s.part.height s.height j)

abbrev pub shown_at : Draw → ℕ → ℕ → Pixel
shown_at d i j = if d.is_smooth then smooth_at d.atlas d.drawn i j else sharp_at d.atlas d.drawn i j

-- the pixel of a draw in column x and row y of the scene
abbrev pub sample : Draw → ℕ → ℕ → Pixel
sample d x y = shown_at d (unsigned (pos x -ℤ d.drawn.x)) (unsigned (pos y -ℤ d.drawn.y))
