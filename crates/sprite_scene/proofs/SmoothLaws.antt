-- Smooth samples are bytes, and a smooth part's texture shows them.
use Rattle.std.proofs.Common.{◌≡◌, ℕ, zero, suc, ◌+◌, ◌-◌, ◌*◌, ◌/◌, ◌<◌, ◌≤◌, ℤ, pos, negsuc, ◌&&◌, List, [], ◌∷◌, ◌++◌, length, refl, ap, ◌∙◌, arith, Some, get_or}
use Rattle.std.specs.Prelude.{nat_lt, slice_index}
use Rattle.std.specs.Int.{int_rem_euclid}
use Rattle.std.specs.List.{flat_map, range_with_len}
use Rattle.std.proofs.lemmas.Bool.{cond_both}
use Rattle.std.proofs.lemmas.List.{get_or-append-add, get_or_append_left}
use Rattle.std.proofs.lemmas.Nat.{div-mul-add, div_below}
use Rattle.std.proofs.Math.Nat.{add-mul, mod-lt, mul-le-mul, mul_assoc, mul_comm}
use Rattle.egl_calls.specs.Ranges.{unsigned}
use Rattle.pixel_formats.specs.Bounds.{IsBytes}
use Rattle.pixel_formats.specs.declared.pixels.Pixel.{Pixel}
use Rattle.pixel_formats.proofs.Packed.{four_small}
use Rattle.pixel_rows.specs.Images.{no_pixel}
use Rattle.pixel_rows.proofs.LawsHold.{length-flat}
use Rattle.scene_reader.specs.declared.items.Atlas.{Atlas}
use Rattle.scene_reader.specs.declared.items.ScaledPart.{ScaledPart}
use Rattle.sprite_scene.specs.Calls.{smooth_texel}
use Rattle.sprite_scene.specs.Painted.{painted_row, picture, rgba}
use Rattle.sprite_scene.specs.Samples.{between, nearest, rounded, smooth_at, taps, texel, weighted}
use Rattle.sprite_scene.proofs.Pictures.{texels_of}

-- ---- Pieces of one length.
pub piece_at : (g : ℕ → List ℕ) (n a m i j : ℕ) → ((k : ℕ) → length (g k) ≡ n) → i < m → j < n → get_or (flat_map g (range_with_len a m)) (i * n + j) 0 ≡ get_or (g (a + i)) j 0
piece_at g n a zero i j e l r = absurd (omega arith)
piece_at g n a (suc m) zero j e l r =
    let first : zero * n + j ≡ j = omega arith in
    let none : a ≡ a + zero = omega arith in
    let long = e a in
    ap (λ k. get_or (g a ++ flat_map g (range_with_len (a + 1) m)) k 0) first
    ∙ get_or_append_left (g a) (flat_map g (range_with_len (a + 1) m)) 0 j (omega (arith, long, r))
    ∙ ap (λ k. get_or (g k) j 0) none
piece_at g n a (suc m) (suc i) j e l r =
    let long = e a in
    let more = add-mul i 1 n in
    let next : suc i * n + j ≡ length (g a) + (i * n + j) = let s : suc i ≡ i + 1 = omega arith in let t = ap (λ k. k * n) s in omega (arith, long, more, t) in
    let same : a + 1 + i ≡ a + suc i = omega arith in
    ap (λ k. get_or (g a ++ flat_map g (range_with_len (a + 1) m)) k 0) next
    ∙ get_or-append-add (g a) (flat_map g (range_with_len (a + 1) m)) (i * n + j) 0
    ∙ piece_at g n (a + 1) m i j e (omega (arith, l)) r
    ∙ ap (λ k. get_or (g k) j 0) same

-- the byte of a picture
pub byte_in : (f : ℕ → ℕ → Pixel) (w h u v k : ℕ) → u < w → v < h → k < 4 → get_or (picture f w h) (4 * (v * w + u) + k) 0 ≡ get_or (rgba (f u v)) k 0
unfolding picture
byte_in f w h u v k l m n =
    let row = λ (y : ℕ). painted_row f w y in
    let long : (y : ℕ) → length (painted_row f w y) ≡ w * 4 = λ y. length-flat (λ x. rgba (f x y)) 4 w 0 (λ x. refl) in
    let a = mul_assoc v w 4 in
    let c = mul-le-mul {n₁ = u + 1} {m₁ = 4} {n₂ = w} {m₂ = 4} (omega (arith, l)) (omega arith) in
    let at : 4 * (v * w + u) + k ≡ v * (w * 4) + (u * 4 + k) = omega (arith, a) in
    let none : 0 + v ≡ v = omega arith in
    let zero_u : 0 + u ≡ u = omega arith in
    ap (λ i. get_or (picture f w h) i 0) at
    ∙ piece_at (λ y. painted_row f w y) (w * 4) 0 h v (u * 4 + k) long m (omega (arith, l, n))
    ∙ ap (λ y. get_or (painted_row f w y) (u * 4 + k) 0) none
    ∙ piece_at (λ x. rgba (f x v)) 4 0 w u k (λ x. refl) l n
    ∙ ap (λ x. get_or (rgba (f x v)) k 0) zero_u

abbrev made : ℕ → ℕ → ℕ → ℕ → Pixel
made r g b a = record { r = r; g = g; b = b; a = a }

-- a picture as bytes shows its pixels
pub shows_picture : (f : ℕ → ℕ → Pixel) (w h u v : ℕ) → u < w → v < h → texels_of (picture f w h) w u v ≡ f u v
shows_picture f w h u v l m =
    let none : 4 * (v * w + u) ≡ 4 * (v * w + u) + 0 = omega arith in
    let p : List ℕ = picture f w h in
    let at : ℕ = 4 * (v * w + u) in
    ap (λ x. made x (slice_index p (at + 1)) (slice_index p (at + 2)) (slice_index p (at + 3))) (ap (λ k. get_or p k 0) none ∙ byte_in f w h u v 0 l m (omega arith))
    ∙ ap (λ x. made (f u v).r x (slice_index p (at + 2)) (slice_index p (at + 3))) (byte_in f w h u v 1 l m (omega arith))
    ∙ ap (λ x. made (f u v).r (f u v).g x (slice_index p (at + 3))) (byte_in f w h u v 2 l m (omega arith))
    ∙ ap (λ x. made (f u v).r (f u v).g (f u v).b x) (byte_in f w h u v 3 l m (omega arith))

-- ---- Bytes.
-- a mean of two numbers by their weights is no more than the greater
pub mean_most : (whole f a b most : ℕ) → f ≤ whole → a ≤ most → b ≤ most → (whole - f) * a + f * b ≤ whole * most
mean_most whole f a b most l p q =
    let x = mul-le-mul {n₁ = whole - f} {m₁ = a} {n₂ = whole - f} {m₂ = most} (omega arith) p in
    let y = mul-le-mul {n₁ = f} {m₁ = b} {n₂ = f} {m₂ = most} (omega arith) q in
    let z = add-mul (whole - f) f most in
    let w : whole - f + f ≡ whole = omega (arith, l) in
    let s = ap (λ n. n * most) w in
    omega (arith, x, y, z, s)

pub weighted_most : (w h f g a b c d : ℕ) → f ≤ 2 * w → g ≤ 2 * h → a ≤ 255 → b ≤ 255 → c ≤ 255 → d ≤ 255 → weighted w h f g a b c d ≤ 2 * w * (2 * h * 255)
weighted_most w h f g a b c d l m p q r s =
    mean_most (2 * w) f ((2 * h - g) * a + g * c) ((2 * h - g) * b + g * d) (2 * h * 255) l (mean_most (2 * h) g a c 255 m p r) (mean_most (2 * h) g b d 255 m q s)

pub rounded_byte : (w h m : ℕ) → 1 ≤ w → 1 ≤ h → m ≤ 2 * w * (2 * h * 255) → rounded w h m < 256
rounded_byte w h m a b l =
    let q : 2 * w * (2 * h * 255) ≡ 4 * w * h * 255 = let x = mul_assoc (2 * w) (2 * h) 255 in let y = mul_assoc (2 * w) 2 h in let z : 2 * w * 2 ≡ 4 * w = omega arith in let t = ap (λ n. n * h) z in let e = ap (λ n. n * 255) (y ∙ refl) in cc in
    let some = mul-le-mul {n₁ = 1} {m₁ = 1} {n₂ = 4 * w} {m₂ = h} (omega (arith, a)) b in
    div_below (2 * m + 4 * w * h) (2 * (4 * w * h)) 256 (omega (arith, some)) (omega (arith, l, q, some))

-- ---- Which texel of a smooth part's texture a draw shows: the one in its own column and row.
pub nearest_own : (n i : ℕ) → 1 ≤ n → nearest 0 n n i ≡ i
nearest_own n i some =
    let a = mul_comm (2 * n) i in
    let b = add-mul (2 * i) 1 n in
    let c = mul_assoc i 2 n in
    let d = mul_comm 2 i in
    let e = mul_assoc i 2 n in
    let top : 2 * n * 0 + (2 * i + 1) * n ≡ i * (2 * n) + n = let f : 2 * i ≡ i * 2 = omega arith in let g = ap (λ k. k * n) f in omega (arith, b, c, g) in
    ap (λ k. k / (2 * n)) top ∙ div-mul-add i (2 * n) n (omega (arith, some))

-- ---- The bytes of pictures.
small_append : (xs ys : List ℕ) → ((k : ℕ) → get_or xs k 0 < 256) → ((k : ℕ) → get_or ys k 0 < 256) → (k : ℕ) → get_or (xs ++ ys) k 0 < 256
small_append [] ys a b k = b k
small_append (x ∷ xs) ys a b zero = a zero
small_append (x ∷ xs) ys a b (suc k) = small_append xs ys (λ i. a (suc i)) b k

small_flat : (g : ℕ → List ℕ) (a n : ℕ) → ((i k : ℕ) → get_or (g i) k 0 < 256) → (k : ℕ) → get_or (flat_map g (range_with_len a n)) k 0 < 256
small_flat g a zero h k = omega arith
small_flat g a (suc n) h k = small_append (g a) (flat_map g (range_with_len (a + 1) n)) (h a) (small_flat g (a + 1) n h) k

pub small_picture : (f : ℕ → ℕ → Pixel) (w h : ℕ) → ((x y : ℕ) → IsBytes (f x y)) → (k : ℕ) → slice_index (picture f w h) k < 256
unfolding picture
small_picture f w h b k = small_flat (λ y. painted_row f w y) 0 h (λ y i. small_flat (λ x. rgba (f x y)) 0 w (λ x j. let p = b x y in four_small (f x y).r (f x y).g (f x y).b (f x y).a p.r p.g p.b p.a j) i) k

-- ---- Smooth samples.
weight_below : (z : ℤ) (n : ℕ) → 0 < n → unsigned (int_rem_euclid z (pos n)) ≤ n
weight_below (pos a) n l = let e = mod-lt a {m = n} l in omega (arith, e)
weight_below (negsuc a) n l = omega (arith, l)

texel_small : (a : Atlas) (u v : ℕ) → ((k : ℕ) → slice_index a.texels k < 256) → IsBytes (texel (Some a) u v)
texel_small a u v small = record { r = small _; g = small _; b = small _; a = small _ }

-- some bytes by weights are a byte
component_byte : (w h f g a b c d : ℕ) → 1 ≤ w → 1 ≤ h → f ≤ 2 * w → g ≤ 2 * h → a < 256 → b < 256 → c < 256 → d < 256 → rounded w h (weighted w h f g a b c d) < 256
component_byte w h f g a b c d some_w some_h l m p q r s = rounded_byte w h (weighted w h f g a b c d) some_w some_h (weighted_most w h f g a b c d l m (omega (arith, p)) (omega (arith, q)) (omega (arith, r)) (omega (arith, s)))

pub smooth_bytes : (a : Atlas) (s : ScaledPart) (i j : ℕ) → ((k : ℕ) → slice_index a.texels k < 256) → 1 ≤ s.width → 1 ≤ s.height → IsBytes (smooth_at (Some a) s i j)
unfolding smooth_at
smooth_bytes a s i j small p q =
    let c = taps s.part.u s.part.width s.width i in
    let r = taps s.part.v s.part.height s.height j in
    let f = weight_below (between s.part.u s.part.width s.width i) (2 * s.width) (omega (arith, p)) in
    let g = weight_below (between s.part.v s.part.height s.height j) (2 * s.height) (omega (arith, q)) in
    let t1 = texel_small a c.first r.first small in
    let t2 = texel_small a c.second r.first small in
    let t3 = texel_small a c.first r.second small in
    let t4 = texel_small a c.second r.second small in
    record {
      r = component_byte s.width s.height c.weight r.weight _ _ _ _ p q f g t1.r t2.r t3.r t4.r;
      g = component_byte s.width s.height c.weight r.weight _ _ _ _ p q f g t1.g t2.g t3.g t4.g;
      b = component_byte s.width s.height c.weight r.weight _ _ _ _ p q f g t1.b t2.b t3.b t4.b;
      a = component_byte s.width s.height c.weight r.weight _ _ _ _ p q f g t1.a t2.a t3.a t4.a;
    }

pub no_pixel_bytes : IsBytes no_pixel
no_pixel_bytes = record { r = omega arith; g = omega arith; b = omega arith; a = omega arith }

pub smooth_texel_bytes : (a : Atlas) (s : ScaledPart) (i j : ℕ) → ((k : ℕ) → slice_index a.texels k < 256) → 1 ≤ s.width → 1 ≤ s.height → IsBytes (smooth_texel (Some a) s i j)
smooth_texel_bytes a s i j small p q = cond_both (nat_lt i s.width && nat_lt j s.height) (smooth_at (Some a) s i j) no_pixel IsBytes (λ _. smooth_bytes a s i j small p q) (λ _. no_pixel_bytes)
