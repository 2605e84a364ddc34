-- The levels of a texture: when they are complete, and which one is sampled.
use Rattle.std.specs.Prelude.{ℕ, zero, suc, ◌+◌, ◌*◌, ◌/◌, ◌^◌, Bool, true, false, not, ◌||◌, ◌&&◌, ◌==◌, nat_le, max, List, if◌then◌else◌, slice_index_or, unsigned_abs}
use Rattle.std.specs.declared.option.Option.{Option}
use Rattle.std.specs.declared.option.Option.TheVariants.{None, Some}
use Rattle.pixel_formats.specs.declared.formats.Format.{Format}
use Rattle.pixel_formats.specs.declared.formats.Format.TheVariants.{Rgb565, Rgb888, Rgba8888, Rgba4444, Rgba5551, A8, L8, La88}
use Rattle.texture_objects.specs.Greatest.{greatest}
use Rattle.texture_objects.specs.MinFilters.{uses_mipmaps}
use Rattle.texture_objects.specs.Textures.{TextureValue, crop_height, crop_width}
use Rattle.texture_objects.specs.declared.levels.Shape.{Shape}
use Rattle.texture_objects.specs.declared.levels.Sides.{Sides}
use Rattle.texture_objects.specs.declared.parameters.MinFilter.{MinFilter}

-- the storage of a level, where it has one
abbrev pub level_at : List (Option Shape) → ℕ → Option Shape
level_at levels k = slice_index_or levels k None

-- a number for each format, so that formats can be tested
abbrev pub place_of : Format → ℕ
place_of Rgb565 = 0
place_of Rgb888 = 1
place_of Rgba8888 = 2
place_of Rgba4444 = 3
place_of Rgba5551 = 4
place_of A8 = 5
place_of L8 = 6
place_of La88 = 7

abbrev pub is_same_format : Format → Format → Bool
is_same_format f g = place_of f == place_of g

abbrev pub is_same_shape : Shape → Shape → Bool
is_same_shape s t = is_same_format s.format t.format && (s.w == t.w) && (s.h == t.h)

-- the floor of the logarithm to base 2 of a side, which has at most 32 bits: the greatest k with 2^k not above it
unfoldable pub log_of : ℕ → ℕ
log_of side = greatest (λ k. nat_le (2 ^ k) side) 31

-- the last level of the mipmaps below a level 0
abbrev pub last_level : Shape → ℕ
last_level base = log_of (max base.w base.h)

-- a side of level k: halved k times, and no shorter than 1
abbrev pub halved : ℕ → ℕ → ℕ
halved side k = max (side / 2 ^ k) 1

-- the storage that level k wants
abbrev pub mipmap_of : Shape → ℕ → Shape
mipmap_of base k = record { format = base.format; w = halved base.w k; h = halved base.h k }

-- whether a level has the storage of a shape
abbrev pub is_stored : Option Shape → Shape → Bool
is_stored (Some s) t = is_same_shape s t
is_stored None t = false

-- whether each number from `start` on, `count` of them, passes
unfoldable pub each_passes : (ℕ → Bool) → ℕ → ℕ → Bool
each_passes test start zero = true
each_passes test start (suc count) = test start && each_passes test (start + 1) count

-- whether each level from 1 to the last has the storage that it wants
abbrev pub has_mipmaps : List (Option Shape) → Shape → Bool
has_mipmaps levels base = each_passes (λ k. is_stored (level_at levels k) (mipmap_of base k)) 1 (last_level base)

abbrev pub is_complete_over : MinFilter → List (Option Shape) → Option Shape → Bool
is_complete_over filter levels (Some base) = not (uses_mipmaps filter) || has_mipmaps levels base
is_complete_over filter levels None = false

-- whether a texture is complete (OpenGL ES 1.1, "Texture Completeness"): level 0 has storage, and where the filter
-- uses mipmaps, each level from 1 to the last has storage of level 0's format with sides halved so often
abbrev pub is_complete : TextureValue → List (Option Shape) → Bool
is_complete t levels = is_complete_over t.min_filter levels (level_at levels 0)

-- whether so many texels of level 0, in level k, are no fewer than the pixels of a draw, which is in 16.16 fixed point
abbrev pub is_enough : ℕ → ℕ → ℕ → Bool
is_enough texels drawn k = nat_le (drawn * 2 ^ k) (texels * 65536)

-- the same of the texels that are cut out, by their width or by their height
abbrev pub are_enough : Sides → Sides → ℕ → Bool
are_enough cut drawn k = is_enough cut.w drawn.w k || is_enough cut.h drawn.h k

abbrev pub level_over : MinFilter → Option Shape → Sides → Sides → ℕ
level_over filter (Some base) cut drawn = if uses_mipmaps filter then greatest (are_enough cut drawn) (last_level base) else 0
level_over filter None cut drawn = 0

-- the sides of the crop rectangle, in texels of level 0
abbrev pub crop_sides : TextureValue → Sides
crop_sides t = record { w = unsigned_abs (crop_width t); h = unsigned_abs (crop_height t) }

-- the level that a draw of w by h samples, both in 16.16 fixed point: 0 where the filter uses no mipmaps, and else the
-- greatest one in which the crop rectangle has no fewer texels than the draw has pixels, by its width or by its height.
-- That one level serves all four mipmap filters is this project's own choice
abbrev pub level_for : TextureValue → List (Option Shape) → ℕ → ℕ → ℕ
level_for t levels w h = level_over t.min_filter (level_at levels 0) (crop_sides t) (record { w = w; h = h })
