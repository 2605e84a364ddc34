-- A draw of whole numbers covers whole pixels, and shows the nearest texels.
use Rattle.std.proofs.Common.{◌≡◌, ℕ, ◌+◌, ◌-◌, ◌*◌, ◌/◌, ◌<◌, ◌≤◌, ℤ, pos, negsuc, true, ◌&&◌, refl, sym, ap, ◌∙◌, arith}
use Rattle.std.specs.Prelude.{◌+ℤ◌, ◌-ℤ◌, ◌*ℤ◌, ◌≤ℤ◌, int_le, int_lt, nat_le, nat_lt}
use Rattle.std.specs.Int.{int_div_euclid}
use Rattle.std.proofs.lemmas.Int.{ints}
use Rattle.std.proofs.lemmas.Nat.{div_below}
use Rattle.std.proofs.Math.Nat.{add-mul, mod-eq_of_lt, mul-add, mul-div-mul_right, mul-le-mul_right, mul_comm, mul_right_comm}
use Rattle.std.proofs.Math.IntN.{pos-*ℤ-pos}
use Rattle.egl_calls.specs.Ranges.{unsigned}
use Rattle.pixel_rows.specs.Rects.{is_in_span}
use Rattle.rect_pipeline.specs.Coverage.{centres_before, is_covered, twice_centre}
use Rattle.rect_pipeline.specs.Texels.{texel, texel_at, wrapped}
use Rattle.rect_pipeline.specs.declared.axes.Axis.{Axis}
use Rattle.rect_pipeline.proofs.Covers.{after_edge, before_edge, centre_after, centre_before}
use Rattle.rect_pipeline.proofs.LawsHold.{plain-at-0}
use Rattle.sprite_scene.specs.Samples.{middle, nearest}

-- ---- Which pixels are covered.
none_below : (z : ℤ) → z ≤ℤ negsuc 0 → unsigned z ≡ 0
none_below (pos n) h = absurd (omega (arith, ints))
none_below (negsuc n) h = refl

centres_whole : (x : ℤ) → centres_before (x *ℤ pos 65536) ≡ unsigned x
centres_whole (pos n) = omega arith
centres_whole (negsuc n) = ap (λ k. k / 65536) (none_below (negsuc n *ℤ pos 65536 +ℤ pos 32767) (omega (arith, ints)))

whole_end : (x : ℤ) (n : ℕ) → (x *ℤ pos 65536 +ℤ pos n *ℤ pos 65536) ≡ (x +ℤ pos n) *ℤ pos 65536
whole_end x n = omega (arith, ints)

pub covers_whole : (x : ℤ) (n k : ℕ) → is_covered (x *ℤ pos 65536) (pos n *ℤ pos 65536) k ≡ is_in_span x (pos n) k
covers_whole x n k =
    ap (λ b. b && int_lt (twice_centre k) (pos 2 *ℤ (x *ℤ pos 65536 +ℤ pos n *ℤ pos 65536))) (centre_after (x *ℤ pos 65536) k ∙ ap (λ m. nat_le m k) (centres_whole x) ∙ sym (after_edge x k))
    ∙ ap (λ b. int_le x (pos k) && b) (ap (λ z. int_lt (twice_centre k) (pos 2 *ℤ z)) (whole_end x n) ∙ centre_before ((x +ℤ pos n) *ℤ pos 65536) k ∙ ap (λ m. nat_lt k m) (centres_whole (x +ℤ pos n)) ∙ sym (before_edge (x +ℤ pos n) k))

-- ---- Which texel is shown.
-- how a draw of `drawn` pixels from `start` on goes over `size` texels from `first` on, among `side` ones
abbrev pub axis : ℤ → ℕ → ℕ → ℕ → ℕ → Axis
axis start drawn first size side = record { start = start *ℤ pos 65536; size = pos drawn *ℤ pos 65536; crop = pos first; extent = pos size; side = side; base = side; repeats = true }

-- a part that lies among the texels, and a pixel of its draw
pub record IsPlace (drawn first size side i : ℕ) : Type 0 where
  pub some : 1 ≤ size
  pub inside : first + size ≤ side
  pub pixel : i < drawn

pub nearest_below : (first size drawn i : ℕ) → 1 ≤ size → i < drawn → nearest first size drawn i < first + size
nearest_below first size drawn i some l =
    let a = mul-le-mul_right {m = 2 * i + 1 + 1} {n = 2 * drawn} size (omega arith) in
    let b = add-mul (2 * i + 1) 1 size in
    let c = mul_comm (first + size) (2 * drawn) in
    let d = mul-add (2 * drawn) first size in
    div_below (middle first size drawn i) (2 * drawn) (first + size) (omega arith) (omega (arith, a, b, c, d))

scaled : (d u q w : ℕ) → (2 * (d * 65536) * u + q * 65536 * w) / (2 * (d * 65536)) ≡ (2 * d * u + q * w) / (2 * d)
scaled d u q w =
    let a : 2 * (d * 65536) ≡ 2 * d * 65536 = omega arith in
    let b = mul_right_comm (2 * d) 65536 u in
    let c = mul_right_comm q 65536 w in
    let s = add-mul (2 * d * u) (q * w) 65536 in
    let top : 2 * d * 65536 * u + q * 65536 * w ≡ (2 * d * u + q * w) * 65536 = cc in
    ap (λ n. (n * u + q * 65536 * w) / n) a ∙ ap (λ n. n / (2 * d * 65536)) top ∙ mul-div-mul_right {m = 65536} (2 * d * u + q * w) (2 * d) (omega arith)

doubled : (k i : ℕ) (start : ℤ) → pos k -ℤ start ≡ pos i → twice_centre k -ℤ pos 2 *ℤ (start *ℤ pos 65536) ≡ pos ((2 * i + 1) * 65536)
doubled k i start h = omega (arith, ints)

texel_is : (start : ℤ) (drawn first size side k i : ℕ) → pos k -ℤ start ≡ pos i → 1 ≤ drawn → 1 ≤ side → texel (axis start drawn first size side) k ≡ pos (nearest first size drawn i)
texel_is start drawn first size side k i h some sides =
    let s : pos drawn *ℤ pos 65536 ≡ pos (drawn * 65536) = pos-*ℤ-pos drawn 65536 in
    plain-at-0 (axis start drawn first size side) k refl (omega arith) (omega (arith, ints))
    ∙ ap (λ z. int_div_euclid (pos 2 *ℤ z *ℤ pos first +ℤ (twice_centre k -ℤ pos 2 *ℤ (start *ℤ pos 65536)) *ℤ pos size) (pos 2 *ℤ z)) s
    ∙ ap (λ z. int_div_euclid (pos 2 *ℤ pos (drawn * 65536) *ℤ pos first +ℤ z *ℤ pos size) (pos 2 *ℤ pos (drawn * 65536))) (doubled k i start h)
    ∙ ap (λ z. int_div_euclid (z *ℤ pos first +ℤ pos ((2 * i + 1) * 65536) *ℤ pos size) z) (pos-*ℤ-pos 2 (drawn * 65536))
    ∙ ap (λ z. int_div_euclid (z +ℤ pos ((2 * i + 1) * 65536) *ℤ pos size) (pos (2 * (drawn * 65536)))) (pos-*ℤ-pos (2 * (drawn * 65536)) first)
    ∙ ap (λ z. int_div_euclid (pos (2 * (drawn * 65536) * first) +ℤ z) (pos (2 * (drawn * 65536)))) (pos-*ℤ-pos ((2 * i + 1) * 65536) size)
    ∙ ap pos (scaled drawn first (2 * i + 1) size)

-- the column that a pixel shows is the nearest one
pub shows_nearest : (start : ℤ) (drawn first size side k i : ℕ) → pos k -ℤ start ≡ pos i → IsPlace drawn first size side i → texel_at (axis start drawn first size side) k ≡ nearest first size drawn i
shows_nearest start drawn first size side k i h p =
    let some = p.some in
    let inside = p.inside in
    let pixel = p.pixel in
    let below = nearest_below first size drawn i some pixel in
    ap (wrapped true side) (texel_is start drawn first size side k i h (omega (arith, pixel)) (omega (arith, some, inside)))
    ∙ mod-eq_of_lt {n = nearest first size drawn i} {m = side} (omega (arith, below, inside))
