-- Cells as the lanes of vectors.
use Rattle.std.proofs.Common.{◌≡◌, ℕ, ◌+◌, ◌-◌, ◌*◌, ◌/◌, ◌<◌, ◌≤◌, zero, suc, Bool, true, false, cond, List, [], ◌∷◌, ◌++◌, length, get_or, map, take, drop, replicate, refl, sym, ap, ◌∙◌, arith, mul_comm, w8, w16, Fits}
use Rattle.std.specs.Prelude.{slice_range, bit_and, bit_or}
use Rattle.std.specs.List.{flat_map}
use Rattle.std.specs.Simd.{first_chunks}
use Rattle.std.specs.Simd.Lanes.{zip2, Each1, Each2}
use Rattle.std.proofs.lemmas.List.{get_or-map, get_or-take, get_or-drop, length-map, length-take, length-drop, take_at, drop_at}
use Rattle.std.proofs.lemmas.Nat.{mul-le, and_le_l, and_le_r, and_mask, or_disjoint}
use Rattle.std.proofs.lemmas.Simd.{Each1-all, Each1-from_get_or, Each2-splat, length-zip2, map-map}
use Rattle.pixel_formats.proofs.Packed.{pack-unpack}
use Rattle.pixel_formats.specs.Bounds.{IsBytes}
use Rattle.pixel_formats.specs.Formats.{bytes_of}
use Rattle.pixel_formats.specs.Components.{widen}
use Rattle.pixel_formats.specs.Pixels.{pack, quantize, unpack}
use Rattle.pixel_formats.specs.declared.formats.Format.{Format}
use Rattle.pixel_formats.specs.declared.formats.Format.TheVariants.{Rgb565, Rgb888, Rgba8888, Rgba4444, Rgba5551, A8, L8, La88}
use Rattle.pixel_formats.specs.declared.pixels.Pixel.{Pixel}
use Rattle.pixel_rows.proofs.Rewriting.{covered_range, rewritten_by}
use Rattle.pixel_rows.proofs.Seen.{rewritten_seen}
use Rattle.pixel_rows.proofs.Stored.{IsBytes-unpack, quantize-eight, unpack-stored}
use Rattle.pixel_rows.specs.Blocks.{Rewritten, in_range}
use Rattle.pixel_rows.specs.Cells.{AreCells, IsCell, blended, seen}
use Rattle.pixel_rows.specs.Images.{no_pixel}
use Rattle.pixel_rows.specs.Lanes.{bytes_in, keeps, kept_or_put, multiplied, product, product_of, puts, repeated, scaled}
use Rattle.pixel_rows.specs.Masks.{every, masked, written}
use Rattle.pixel_rows.proofs.Holding.{written-every}
use Rattle.pixel_rows.specs.declared.masks.Mask.{Mask}

-- ---- the product of two bytes

product_is : (x : ℕ) → (x + 127) / 255 ≡ (2 * x + 255) / 510
product_is x = omega arith

twice : (a b : ℕ) → 2 * a * b ≡ 2 * (a * b)
twice a b = omega arith

pub one_product : (t f : ℕ) → (t * f + 127) / 255 ≡ product_of t f
one_product t f = ap (λ x. (x + 127) / 255) (mul_comm t f) ∙ product_is (f * t) ∙ ap (λ x. (x + 255) / 510) (sym (twice f t))

small : (a b : ℕ) → a < 256 → b < 256 → a * b ≤ 65025
small a b h k = mul-le a b 255 255 (omega arith) (omega arith)

-- what each step on lanes of 16 bits asks, and what all of them leave
pub products_fit : (xs ys : List ℕ) → Each1 (Fits w8) xs → Each1 (Fits w8) ys → Each2 (λ a b. Fits w16 (a * b)) (map (λ x. x) xs) (map (λ x. x) ys)
products_fit [] ys p q = tt
products_fit (x ∷ xs) [] p q = tt
products_fit (x ∷ xs) (y ∷ ys) p q = (record { fits = omega (arith, small x y p.0.fits q.0.fits) }, products_fit xs ys p.1 q.1)

pub sums_fit : (xs ys : List ℕ) (n : ℕ) → Each1 (Fits w8) xs → Each1 (Fits w8) ys →
    Each2 (λ a b. Fits w16 (a + b)) (zip2 (λ a b. a * b) (map (λ x. x) xs) (map (λ x. x) ys)) (replicate n 127)
sums_fit [] ys n p q = tt
sums_fit (x ∷ xs) [] n p q = tt
sums_fit (x ∷ xs) (y ∷ ys) zero p q = tt
sums_fit (x ∷ xs) (y ∷ ys) (suc n) p q = (record { fits = omega (arith, small x y p.0.fits q.0.fits) }, sums_fit xs ys n p.1 q.1)

pub divides : (xs : List ℕ) (n : ℕ) → Each2 (λ a b. 0 < b) xs (replicate n 255)
divides xs n = Each2-splat (λ a b. 0 < b) xs n 255 (Each1-all (λ a. 0 < 255) (λ a. omega arith) xs)

pub quotients_fit : (xs ys : List ℕ) (n m : ℕ) → Each1 (Fits w8) xs → Each1 (Fits w8) ys →
    Each1 (Fits w8) (zip2 (λ a b. a / b) (zip2 (λ a b. a + b) (zip2 (λ a b. a * b) (map (λ x. x) xs) (map (λ x. x) ys)) (replicate n 127)) (replicate m 255))
quotients_fit [] ys n m p q = tt
quotients_fit (x ∷ xs) [] n m p q = tt
quotients_fit (x ∷ xs) (y ∷ ys) zero m p q = tt
quotients_fit (x ∷ xs) (y ∷ ys) (suc n) zero p q = tt
quotients_fit (x ∷ xs) (y ∷ ys) (suc n) (suc m) p q = (record { fits = omega (arith, small x y p.0.fits q.0.fits) }, quotients_fit xs ys n m p.1 q.1)

pub products_are : (xs ys : List ℕ) (n : ℕ) → length xs ≡ n →
    map (λ x. x) (zip2 (λ a b. a / b) (zip2 (λ a b. a + b) (zip2 (λ a b. a * b) (map (λ x. x) xs) (map (λ x. x) ys)) (replicate n 127)) (replicate n 255)) ≡ zip2 product_of xs ys
products_are [] ys n e = refl
products_are (x ∷ xs) [] n e = refl
products_are (x ∷ xs) (y ∷ ys) zero e = absurd (omega arith)
products_are (x ∷ xs) (y ∷ ys) (suc n) e =
    ap (λ l. (x * y + 127) / 255 ∷ l) (products_are xs ys n (omega arith)) ∙ ap (λ p. p ∷ zip2 product_of xs ys) (one_product x y)

-- ---- vectors of cells

pub zip2_append : {A B C : Type 0} (f : A → B → C) (xs ys : List A) (bs cs : List B) → length xs ≡ length bs → zip2 f (xs ++ ys) (bs ++ cs) ≡ zip2 f xs bs ++ zip2 f ys cs
zip2_append f [] ys [] cs e = refl
zip2_append f [] ys (b ∷ bs) cs e = absurd (omega arith)
zip2_append f (x ∷ xs) ys [] cs e = absurd (omega arith)
zip2_append f (x ∷ xs) ys (b ∷ bs) cs e = ap (λ l. f x b ∷ l) (zip2_append f xs ys bs cs (omega arith))

first_one : (n k : ℕ) (c r : List ℕ) → length c ≡ n → first_chunks n (suc k) (c ++ r) ≡ c ∷ first_chunks n k r
first_one n k c r e = ap (λ x. x ∷ first_chunks n k (drop n (c ++ r))) (take_at c r n e) ∙ ap (λ x. c ∷ first_chunks n k x) (drop_at c r n e)

-- cells that were zipped with one cell, by way of all of their bytes
zipped_flat : (f : ℕ → ℕ → ℕ) (n : ℕ) (b : List ℕ) (cells : List (List ℕ)) → length b ≡ n → Each1 (λ c. length c ≡ n) cells →
    zip2 f (flat_map (λ c. c) cells) (flat_map (λ c. c) (replicate (length cells) b)) ≡ flat_map (λ c. c) (map (λ c. zip2 f c b) cells)
zipped_flat f n b [] e h = refl
zipped_flat f n b (c ∷ cells) e h =
    zip2_append f c (flat_map (λ x. x) cells) b (flat_map (λ x. x) (replicate (length cells) b)) (h.0 ∙ sym e)
    ∙ ap (λ l. zip2 f c b ++ l) (zipped_flat f n b cells e h.1)

pub zipped_long : (f : ℕ → ℕ → ℕ) (n : ℕ) (b : List ℕ) (cells : List (List ℕ)) → length b ≡ n → Each1 (λ c. length c ≡ n) cells → Each1 (λ c. length c ≡ n) (map (λ c. zip2 f c b) cells)
zipped_long f n b [] e h = tt
zipped_long f n b (c ∷ cells) e h = (length-zip2 f c b (h.0 ∙ sym e) ∙ h.0, zipped_long f n b cells e h.1)

chunks_flat : (n : ℕ) (cells : List (List ℕ)) → Each1 (λ c. length c ≡ n) cells → first_chunks n (length cells) (flat_map (λ c. c) cells) ≡ cells
chunks_flat n [] h = refl
chunks_flat n (c ∷ cells) h = first_one n (length cells) c (flat_map (λ x. x) cells) h.0 ∙ ap (λ l. c ∷ l) (chunks_flat n cells h.1)

pub four_chunks : (cells : List (List ℕ)) → length cells ≡ 4 → Each1 (λ c. length c ≡ 4) cells → first_chunks 4 4 (flat_map (λ c. c) cells) ≡ cells
four_chunks cells four h = ap (λ n. first_chunks 4 n (flat_map (λ c. c) cells)) (sym four) ∙ chunks_flat 4 cells h

pub long_cells : (n : ℕ) (cells : List (List ℕ)) → AreCells n cells → Each1 (λ c. length c ≡ n) cells
long_cells n cells h = Each1-from_get_or (λ c. length c ≡ n) cells [] (λ i l. (h i l).long)

-- the same of four cells
pub four_zipped : (f : ℕ → ℕ → ℕ) (b : List ℕ) (cells : List (List ℕ)) (v w : List ℕ) → length b ≡ 4 → length cells ≡ 4 → Each1 (λ c. length c ≡ 4) cells →
    v ≡ flat_map (λ c. c) cells → w ≡ repeated b → zip2 f v w ≡ flat_map (λ c. c) (map (λ c. zip2 f c b) cells)
four_zipped f b cells v w long four h is wide =
    ap (λ x. zip2 f x w) is ∙ ap (zip2 f (flat_map (λ c. c) cells)) (wide ∙ ap (λ n. flat_map (λ c. c) (replicate n b)) (sym four)) ∙ zipped_flat f 4 b cells long h

pub fours_made : (f : ℕ → ℕ → ℕ) (b : List ℕ) (cells : List (List ℕ)) (v w r : List ℕ) → length b ≡ 4 → length cells ≡ 4 → AreCells 4 cells →
    v ≡ flat_map (λ c. c) cells → w ≡ repeated b → r ≡ zip2 f v w → first_chunks 4 4 r ≡ map (λ c. zip2 f c b) cells
fours_made f b cells v w r long four are is wide e =
    let h = long_cells 4 cells are in
    ap (first_chunks 4 4) (e ∙ four_zipped f b cells v w long four h is wide)
    ∙ four_chunks (map (λ c. zip2 f c b) cells) (length-map cells (λ c. zip2 f c b) ∙ four) (zipped_long f 4 b cells long h)

pub fours_made_twice : (f g : ℕ → ℕ → ℕ) (b c : List ℕ) (cells : List (List ℕ)) (v w x r : List ℕ) → length b ≡ 4 → length c ≡ 4 → length cells ≡ 4 → AreCells 4 cells →
    v ≡ flat_map (λ z. z) cells → w ≡ repeated b → x ≡ repeated c → r ≡ zip2 g (zip2 f v w) x → first_chunks 4 4 r ≡ map (λ z. zip2 g (zip2 f z b) c) cells
fours_made_twice f g b c cells v w x r long also four are is wide again e =
    let h = long_cells 4 cells are in
    let mid = map (λ z. zip2 f z b) cells in
    let mid_four : length mid ≡ 4 = length-map cells (λ z. zip2 f z b) ∙ four in
    let mid_long = zipped_long f 4 b cells long h in
    ap (first_chunks 4 4) (e ∙ four_zipped g c mid (zip2 f v w) x also mid_four mid_long (four_zipped f b cells v w long four h is wide) again)
    ∙ four_chunks (map (λ z. zip2 g z c) mid) (length-map mid (λ z. zip2 g z c) ∙ mid_four) (zipped_long g 4 c mid also mid_long)
    ∙ map-map (λ z. zip2 g z c) (λ z. zip2 f z b) cells

-- so many cells from a place on, each of which became what `g` makes of it
pub part_rewritten : (g : List ℕ → List ℕ) (n at : ℕ) (made old new : List (List ℕ)) → at + n ≤ length old → made ≡ map g (slice_range old at (at + n)) →
    Rewritten [] (in_range at (at + n)) (λ k _. get_or made (k - at) []) old new → Rewritten [] (in_range at (at + n)) (λ _ o. g o) old new
part_rewritten g n at made old new room is s =
    rewritten_by [] (in_range at (at + n)) (λ k _. get_or made (k - at) []) (λ _ o. g o) old new s
    (λ k h t.
    let b = covered_range at (at + n) k t in
    let within : k - at < at + n - at = omega (arith, b.0, b.1) in
    let long : length (slice_range old at (at + n)) ≡ n = length-take (at + n - at) (drop at old) ∙ omega (arith, length-drop at old) in
    let place : at + (k - at) ≡ k = omega (arith, b.0) in
    ap (λ l. get_or l (k - at) []) is
    ∙ get_or-map g (slice_range old at (at + n)) (k - at) [] [] (omega arith)
    ∙ ap g (get_or-take (at + n - at) (drop at old) (k - at) [] within ∙ get_or-drop at old (k - at) [] ∙ ap (λ i. get_or old i []) place))

-- ---- cells of four bytes

abbrev made : ℕ → ℕ → ℕ → ℕ → Pixel
made r g b a = record { r = r; g = g; b = b; a = a }

same_pixels : (p q : Pixel) → p.r ≡ q.r → p.g ≡ q.g → p.b ≡ q.b → p.a ≡ q.a → p ≡ q
same_pixels p q r g b a =
    ap (λ x. made x p.g p.b p.a) r ∙ ap (λ x. made q.r x p.b p.a) g ∙ ap (λ x. made q.r q.g x p.a) b ∙ ap (λ x. made q.r q.g q.b x) a

-- the format of four bytes
pub four_is : (f : Format) → 4 ≡ bytes_of f → f ≡ Rgba8888
four_is Rgb565 e = absurd (omega (arith, e))
four_is Rgb888 e = absurd (omega (arith, e))
four_is Rgba8888 e = refl
four_is Rgba4444 e = absurd (omega (arith, e))
four_is Rgba5551 e = absurd (omega (arith, e))
four_is A8 e = absurd (omega (arith, e))
four_is L8 e = absurd (omega (arith, e))
four_is La88 e = absurd (omega (arith, e))

-- a cell of four bytes reads as they are
pub four_read : (x y z w : ℕ) → x < 256 → y < 256 → z < 256 → w < 256 → unpack Rgba8888 (x ∷ y ∷ z ∷ w ∷ []) ≡ made x y z w
unfolding unpack
four_read x y z w a b c d = same_pixels _ (made x y z w) (omega arith) (omega arith) (omega arith) (omega arith)

-- and a pixel is packed as its components are
pub four_packed : (p : Pixel) → IsBytes p → pack Rgba8888 p ≡ bytes_in p
four_packed p h = ap (pack Rgba8888) (sym (four_read p.r p.g p.b p.a h.r h.g h.b h.a)) ∙ pack-unpack Rgba8888 p.r p.g p.b p.a h.r h.g h.b h.a

pub list_4 : (c : List ℕ) → length c ≡ 4 → c ≡ get_or c 0 0 ∷ get_or c 1 0 ∷ get_or c 2 0 ∷ get_or c 3 0 ∷ []
list_4 [] h = absurd (omega arith)
list_4 (x ∷ []) h = absurd (omega arith)
list_4 (x ∷ y ∷ []) h = absurd (omega arith)
list_4 (x ∷ y ∷ z ∷ []) h = absurd (omega arith)
list_4 (x ∷ y ∷ z ∷ w ∷ []) h = refl
list_4 (x ∷ y ∷ z ∷ w ∷ v ∷ c) h = absurd (omega arith)

pub none_kept : (x : ℕ) → bit_and x 0 ≡ 0
none_kept x = omega (arith, and_le_r x 0)

pub all_kept : (x : ℕ) → x < 256 → bit_and x 255 ≡ x
all_kept x h = and_mask x 8 ∙ omega arith

none_put : (x : ℕ) → bit_or x 0 ≡ x
none_put x = or_disjoint x 0 (none_kept x) ∙ omega arith

only_put : (x : ℕ) → bit_or 0 x ≡ x
only_put x = or_disjoint 0 x (omega (arith, and_le_l 0 x)) ∙ omega arith

one_byte : (b : Bool) (x y : ℕ) → x < 256 → bit_or (bit_and x (cond b 0 255)) (cond b y 0) ≡ cond b y x
one_byte true x y h = ap (λ z. bit_or z y) (none_kept x) ∙ only_put y
one_byte false x y h = none_put (bit_and x 255) ∙ all_kept x h

cond-below : (b : Bool) (x y n : ℕ) → x < n → y < n → cond b x y < n
cond-below true x y n h k = h
cond-below false x y n h k = k

pub four_bytes : (x y z w r g b a : ℕ) → x ≡ r → y ≡ g → z ≡ b → w ≡ a → x ∷ y ∷ z ∷ w ∷ [] ≡ r ∷ g ∷ b ∷ a ∷ []
four_bytes x y z w r g b a h i j k =
    ap (λ v. v ∷ y ∷ z ∷ w ∷ []) h ∙ ap (λ v. r ∷ v ∷ z ∷ w ∷ []) i ∙ ap (λ v. r ∷ g ∷ v ∷ w ∷ []) j ∙ ap (λ v. r ∷ g ∷ b ∷ v ∷ []) k

blended_four : (m : Mask) (q : Pixel) (x y z w : ℕ) → IsBytes q → x < 256 → y < 256 → z < 256 → w < 256 →
    kept_or_put (keeps m) (puts m q) (x ∷ y ∷ z ∷ w ∷ []) ≡ blended 4 Rgba8888 m q (x ∷ y ∷ z ∷ w ∷ [])
unfolding blended
blended_four m q x y z w h i j k l =
    four_bytes _ _ _ _ _ _ _ _ (one_byte m.r x q.r i) (one_byte m.g y q.g j) (one_byte m.b z q.b k) (one_byte m.a w q.a l)
    ∙ ap (take 4) (sym (four_packed (masked m (made x y z w) q) (record {
      r = cond-below m.r q.r x 256 h.r i;
      g = cond-below m.g q.g y 256 h.g j;
      b = cond-below m.b q.b z 256 h.b k;
      a = cond-below m.a q.a w 256 h.a l;
    })))
    ∙ ap (λ p. take 4 (pack Rgba8888 (masked m p q))) (sym (four_read x y z w i j k l))

pub blended_cell : (m : Mask) (q : Pixel) (c : List ℕ) → IsBytes q → IsCell 4 c → kept_or_put (keeps m) (puts m q) c ≡ blended 4 Rgba8888 m q c
blended_cell m q c h is =
    ap (kept_or_put (keeps m) (puts m q)) (list_4 c is.long)
    ∙ blended_four m q (get_or c 0 0) (get_or c 1 0) (get_or c 2 0) (get_or c 3 0) h (is.bytes 0) (is.bytes 1) (is.bytes 2) (is.bytes 3)
    ∙ ap (blended 4 Rgba8888 m q) (sym (list_4 c is.long))

-- cells of which some bits were kept, as pixels of which some components were
pub fours_kept : (f : Format) (m : Mask) (q : Pixel) (start end : ℕ) (keep put : List ℕ) (old new : List (List ℕ)) → 4 ≡ bytes_of f → IsBytes q → AreCells 4 old → keep ≡ keeps m → put ≡ puts m q →
    Rewritten [] (in_range start end) (λ _ o. kept_or_put keep put o) old new → Rewritten [] (in_range start end) (λ _ c. blended 4 f m q c) old new
fours_kept f m q start end keep put old new four small cells e h s =
    rewritten_by [] (in_range start end) (λ _ o. kept_or_put keep put o) (λ _ c. blended 4 f m q c) old new s
    (λ k l t.
    ap (λ x. kept_or_put x put (get_or old k [])) e ∙ ap (λ x. kept_or_put (keeps m) x (get_or old k [])) h
    ∙ blended_cell m q (get_or old k []) small (cells k l)
    ∙ ap (λ x. blended 4 x m q (get_or old k [])) (sym (four_is f four)))

-- ---- products of pixels

product_small : (a b : ℕ) → a < 256 → b < 256 → product a b < 256
product_small a b h k = let le : a * b ≤ 65025 = small a b h k in omega (arith, twice a b)

IsBytes-scaled : (by p : Pixel) → IsBytes by → IsBytes p → IsBytes (scaled by p)
IsBytes-scaled by p h k = record { r = product_small by.r p.r h.r k.r; g = product_small by.g p.g h.g k.g; b = product_small by.b p.b h.b k.b; a = product_small by.a p.a h.a k.a }

multiplied_cell : (by : Pixel) (c : List ℕ) → IsBytes by → IsCell 4 c → multiplied (bytes_in by) c ≡ take 4 (pack Rgba8888 (scaled by (unpack Rgba8888 c)))
multiplied_cell by c h is =
    ap (multiplied (bytes_in by)) (list_4 c is.long)
    ∙ ap (take 4) (sym (four_packed (scaled by (made (get_or c 0 0) (get_or c 1 0) (get_or c 2 0) (get_or c 3 0)))
    (IsBytes-scaled by (made (get_or c 0 0) (get_or c 1 0) (get_or c 2 0) (get_or c 3 0)) h (record { r = is.bytes 0; g = is.bytes 1; b = is.bytes 2; a = is.bytes 3 }))))
    ∙ ap (λ p. take 4 (pack Rgba8888 (scaled by p))) (sym (four_read (get_or c 0 0) (get_or c 1 0) (get_or c 2 0) (get_or c 3 0) (is.bytes 0) (is.bytes 1) (is.bytes 2) (is.bytes 3)))
    ∙ ap (λ x. take 4 (pack Rgba8888 (scaled by (unpack Rgba8888 x)))) (sym (list_4 c is.long))

read_scaled : (by : Pixel) (c : List ℕ) → IsBytes by → unpack Rgba8888 (take 4 (pack Rgba8888 (scaled by (unpack Rgba8888 c)))) ≡ scaled by (unpack Rgba8888 c)
read_scaled by c h =
    let bytes : IsBytes (scaled by (unpack Rgba8888 c)) = IsBytes-scaled by (unpack Rgba8888 c) h (IsBytes-unpack Rgba8888 c) in
    unpack-stored Rgba8888 (scaled by (unpack Rgba8888 c)) bytes ∙ quantize-eight (scaled by (unpack Rgba8888 c)) bytes

pub eights_scaled : (by : Pixel) (start end : ℕ) (b : List ℕ) (old new : List (List ℕ)) → IsBytes by → b ≡ bytes_in by → AreCells 4 old →
    Rewritten [] (in_range start end) (λ _ o. multiplied b o) old new → Rewritten no_pixel (in_range start end) (λ _ o. scaled by o) (seen Rgba8888 old) (seen Rgba8888 new)
eights_scaled by start end b old new small e cells s =
    rewritten_seen Rgba8888 (in_range start end) (λ _ c. take 4 (pack Rgba8888 (scaled by (unpack Rgba8888 c)))) (λ _ o. scaled by o) old new
    (rewritten_by [] (in_range start end) (λ _ o. multiplied b o) (λ _ c. take 4 (pack Rgba8888 (scaled by (unpack Rgba8888 c)))) old new s
    (λ k l t. ap (λ x. multiplied x (get_or old k [])) e ∙ multiplied_cell by (get_or old k []) small (cells k l)))
    (λ k c l t. read_scaled by c small)

after : {A : Type 0} (f g : A → A) (b : Bool) (y : A) → cond b (g (cond b (f y) y)) (cond b (f y) y) ≡ cond b (g (f y)) y
after f g true y = refl
after f g false y = refl

-- one write after another of the same places
rewritten_after : {A : Type 0} (d : A) (covers : ℕ → Bool) (f g : ℕ → A → A) (old mid new : List A) → Rewritten d covers f old mid → Rewritten d covers g mid new → Rewritten d covers (λ k o. g k (f k o)) old new
rewritten_after d covers f g old mid new s t = record {
  long = t.long ∙ s.long;
  each = λ k h.
      let in_mid : k < length mid = omega (arith, s.long) in
      t.each k in_mid ∙ ap (λ p. cond (covers k) (g k p) p) (s.each k h) ∙ after (f k) (g k) (covers k) (get_or old k d);
}

-- pixels that were gathered, and then multiplied by a colour
pub gathered_scaled : (f : Format) (by : Pixel) (start end : ℕ) (t : ℕ → Pixel) (b : List ℕ) (old mid new : List (List ℕ)) → 4 ≡ bytes_of f → IsBytes by → b ≡ bytes_in by → AreCells 4 mid →
    Rewritten no_pixel (in_range start end) (λ k _. t k) (seen f old) (seen f mid) → Rewritten [] (in_range start end) (λ _ o. multiplied b o) mid new →
    Rewritten no_pixel (in_range start end) (λ k _. scaled by (t k)) (seen f old) (seen f new)
gathered_scaled f by start end t b old mid new four small e cells s u =
    let is = four_is f four in
    rewritten_after no_pixel (in_range start end) (λ k _. t k) (λ _ o. scaled by o) (seen f old) (seen f mid) (seen f new) s
    (rw is (eights_scaled by start end b mid new small e cells u))

eight_again : (x : ℕ) → widen (widen x 8 8) 8 8 ≡ x
eight_again x = omega arith

-- Rgba8888 keeps whatever it is given
pub keeps_any : (p : Pixel) → quantize Rgba8888 p ≡ p
unfolding quantize
keeps_any p = same_pixels _ p (eight_again p.r) (eight_again p.g) (eight_again p.b) (eight_again p.a)

-- a pixel that was multiplied is stored as it is
pub scaled_as : (f from : Format) (by : Pixel) (cells : List (List ℕ)) (place : ℕ) (o : Pixel) → f ≡ Rgba8888 → f ≡ from →
    scaled by (get_or (seen f cells) place no_pixel) ≡ written f every o (scaled by (get_or (seen from cells) place no_pixel))
scaled_as f from by cells place o e g =
    ap (λ z. scaled by (get_or (seen z cells) place no_pixel)) g
    ∙ sym (written-every f o (scaled by (get_or (seen from cells) place no_pixel)) ∙ ap (λ z. quantize z (scaled by (get_or (seen from cells) place no_pixel))) e
    ∙ keeps_any (scaled by (get_or (seen from cells) place no_pixel)))

-- a row of pixels of which some components were put, as one of which some were written
pub fours_mixed : (f : Format) (m : Mask) (at : ℕ) (row : List Pixel) (old new : List (List ℕ)) → 4 ≡ bytes_of f → ((k : ℕ) → k < length row → IsBytes (get_or row k no_pixel)) → AreCells 4 old →
    Rewritten [] (in_range at (at + length row)) (λ k o. kept_or_put (keeps m) (puts m (get_or row (k - at) no_pixel)) o) old new →
    Rewritten [] (in_range at (at + length row)) (λ k o. blended 4 f m (quantize f (get_or row (k - at) no_pixel)) o) old new
fours_mixed f m at row old new four small cells s =
    rewritten_by [] (in_range at (at + length row)) (λ k o. kept_or_put (keeps m) (puts m (get_or row (k - at) no_pixel)) o) (λ k o. blended 4 f m (quantize f (get_or row (k - at) no_pixel)) o) old new s
    (λ k l t.
    let b = covered_range at (at + length row) k t in
    let within : k - at < length row = omega (arith, b.0, b.1) in
    blended_cell m (get_or row (k - at) no_pixel) (get_or old k []) (small (k - at) within) (cells k l)
    ∙ ap (λ q. blended 4 Rgba8888 m q (get_or old k [])) (sym (keeps_any (get_or row (k - at) no_pixel)))
    ∙ ap (λ x. blended 4 x m (quantize x (get_or row (k - at) no_pixel)) (get_or old k [])) (sym (four_is f four)))
