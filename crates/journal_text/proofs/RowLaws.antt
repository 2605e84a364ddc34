-- What a row of a front has is bytes, and how many.
use Rattle.std.proofs.Common.{◌≡◌, ℕ, zero, suc, ◌*◌, ◌<◌, List, [], ◌∷◌, ◌++◌, take, length, arith, pos, ◌+ℤ◌, Option, None, Some, All}
use Rattle.std.specs.Int.{to_le_bytes, w32}
use Rattle.std.specs.List.{flat_map, range_with_len}
use Rattle.egl_calls.specs.Ranges.{unsigned}
use Rattle.pixel_formats.specs.Formats.{bytes_of}
use Rattle.pixel_formats.specs.Pixels.{pack, pack_in}
use Rattle.pixel_formats.specs.declared.formats.Format.{Format}
use Rattle.pixel_formats.specs.declared.formats.Format.TheVariants.{Rgba8888}
use Rattle.pixel_formats.specs.declared.pixels.Pixel.{Pixel}
use Rattle.pixel_rows.proofs.LawsHold.{length-row_bytes}
use Rattle.pixel_rows.specs.Images.{ImageValue}
use Rattle.pixel_rows.specs.Transfers.{zeros, place_in, pixel_bytes, bytes_at, line, padding, row_bytes}
use Rattle.pixel_rows.specs.declared.rects.Rect.{Rect}
use Rattle.trace_model.specs.Recording.{row_of}
use Rattle.journal_text.specs.Rests.{shown_row}
use Rattle.journal_text.specs.Written.{IsByte}

abbrev Small : List ℕ → Type 0
Small [] = Unit {0}
Small (b ∷ bs) = (b < 256) × Small bs

all_small : (bs : List ℕ) → Small bs → All IsByte bs
all_small [] s k d h = absurd (omega (arith, h))
all_small (b ∷ bs) s zero d h = s.0
all_small (b ∷ bs) s (suc k) d h = all_small bs s.1 k d (omega (arith, h))

small_append : (xs ys : List ℕ) → Small xs → Small ys → Small (xs ++ ys)
small_append [] ys a b = b
small_append (x ∷ xs) ys a b = (a.0, small_append xs ys a.1 b)

small_each : (f : ℕ → List ℕ) → ((k : ℕ) → Small (f k)) → (ks : List ℕ) → Small (flat_map f ks)
small_each f s [] = tt
small_each f s (k ∷ ks) = small_append (f k) (flat_map f ks) (s k) (small_each f s ks)

small_take : (n : ℕ) (bs : List ℕ) → Small bs → Small (take n bs)
small_take zero [] s = tt
small_take zero (b ∷ bs) s = tt
small_take (suc n) [] s = tt
small_take (suc n) (b ∷ bs) s = (s.0, small_take n bs s.1)

small_zeros : (n : ℕ) → Small (zeros n)
small_zeros zero = tt
small_zeros (suc n) = (omega arith, small_zeros n)

small_number : (n : ℕ) → Small (to_le_bytes w32 n)
small_number n = (omega arith, (omega arith, (omega arith, (omega arith, tt))))

small_pixel : (to : Format) (p : Pixel) → Small (pixel_bytes to p)
unfolding pack pack_in
small_pixel to p = small_take (bytes_of to) (pack to p) (small_number _)

small_at : (v : ImageValue) (to : Format) (x y : Option ℕ) → Small (bytes_at v to x y)
small_at v to (Some x) (Some y) = small_pixel to _
small_at v to (Some x) None = small_zeros (bytes_of to)
small_at v to None y = small_zeros (bytes_of to)

small_line : (v : ImageValue) (rect : Rect) (to : Format) (j : ℕ) → Small (line v rect to j)
unfolding line
small_line v rect to j =
    small_each (λ i. bytes_at v to (place_in v.width (rect.x +ℤ pos i)) (place_in v.height (rect.y +ℤ pos j)))
    (λ i. small_at v to (place_in v.width (rect.x +ℤ pos i)) (place_in v.height (rect.y +ℤ pos j)))
    (range_with_len 0 (unsigned rect.w))

small_row : (v : ImageValue) (rect : Rect) (to : Format) (align : ℕ) → Small (row_bytes v rect to align)
unfolding row_bytes
small_row v rect to align =
    small_each (λ j. line v rect to j ++ zeros (padding rect to align))
    (λ j. small_append (line v rect to j) (zeros (padding rect to align)) (small_line v rect to j) (small_zeros (padding rect to align)))
    (range_with_len 0 (unsigned rect.h))

pub row_bytes_are : (v : ImageValue) (y : ℕ) → All IsByte (shown_row v y)
row_bytes_are v y = all_small (shown_row v y) (small_row v (row_of v y) Rgba8888 1)

-- four a pixel
pub row_long : (v : ImageValue) (y : ℕ) → length (shown_row v y) ≡ 4 * v.width
row_long v y = omega (arith, length-row_bytes v (row_of v y) Rgba8888 1 (omega arith))
