-- A row of cells laid over others by lanes: some bits kept, and some taken of the row.
use Rattle.std.proofs.Common.{◌≡◌, ℕ, ◌+◌, ◌-◌, ◌<◌, ◌≤◌, Bool, true, false, cond, List, [], ◌∷◌, ◌++◌, length, get_or, set, map, drop, refl, sym, ap, subst, ◌∙◌, arith}
use Rattle.std.specs.Prelude.{slice_range, bit_and, bit_or}
use Rattle.std.specs.List.{flat_map}
use Rattle.std.specs.Simd.{first_chunks}
use Rattle.std.specs.Simd.Lanes.{zip2, Each1}
use Rattle.std.proofs.lemmas.List.{get_or-map, get_or-take, get_or-drop, length-map, length-take, length-drop}
use Rattle.std.proofs.lemmas.Simd.{get_or-zip2, length-zip2}
use Rattle.pixel_formats.specs.Pixels.{unpack}
use Rattle.pixel_formats.specs.declared.formats.Format.TheVariants.{Rgba8888}
use Rattle.pixel_formats.specs.declared.pixels.Pixel.{Pixel}
use Rattle.pixel_rows.proofs.LaneCells.{all_kept, four_bytes, four_chunks, four_read, four_zipped, list_4, long_cells, none_kept, zip2_append, zipped_long}
use Rattle.pixel_rows.proofs.Rewriting.{covered_range, range_joined, range_more, rewritten_by}
use Rattle.pixel_rows.specs.Blocks.{Rewritten, in_range}
use Rattle.pixel_rows.specs.Cells.{AreCells, IsCell}
use Rattle.pixel_rows.specs.Lanes.{laid, puts, repeated, takes}
use Rattle.pixel_rows.specs.declared.masks.Mask.{Mask}

-- ---- vectors of cells

abbrev zipped : (ℕ → ℕ → ℕ) → List (List ℕ) → List (List ℕ) → List (List ℕ)
zipped f xs ys = zip2 (λ (x y : List ℕ). zip2 f x y) xs ys

two_zipped : (f : ℕ → ℕ → ℕ) (n : ℕ) (xs ys : List (List ℕ)) → length xs ≡ length ys → Each1 (λ c. length c ≡ n) xs → Each1 (λ c. length c ≡ n) ys →
    zip2 f (flat_map (λ c. c) xs) (flat_map (λ c. c) ys) ≡ flat_map (λ c. c) (zipped f xs ys)
two_zipped f n [] ys e h k = refl
two_zipped f n (x ∷ xs) [] e h k = absurd (omega arith)
two_zipped f n (x ∷ xs) (y ∷ ys) e h k =
    zip2_append f x (flat_map (λ c. c) xs) y (flat_map (λ c. c) ys) (h.0 ∙ sym k.0)
    ∙ ap (λ l. zip2 f x y ++ l) (two_zipped f n xs ys (omega arith) h.1 k.1)

two_long : (f : ℕ → ℕ → ℕ) (n : ℕ) (xs ys : List (List ℕ)) → Each1 (λ c. length c ≡ n) xs → Each1 (λ c. length c ≡ n) ys → Each1 (λ c. length c ≡ n) (zipped f xs ys)
two_long f n [] ys h k = tt
two_long f n (x ∷ xs) [] h k = tt
two_long f n (x ∷ xs) (y ∷ ys) h k = (length-zip2 f x y (h.0 ∙ sym k.0) ∙ h.0, two_long f n xs ys h.1 k.1)

-- some bits of each cell, by bits of one cell
abbrev some_bits : List ℕ → List (List ℕ) → List (List ℕ)
some_bits bits cells = map (λ c. zip2 bit_and c bits) cells

fours_laid : (keep got : List ℕ) (cells row : List (List ℕ)) (v w x y : List ℕ) → length keep ≡ 4 → length got ≡ 4 → length cells ≡ 4 → length row ≡ 4 → AreCells 4 cells → AreCells 4 row →
    v ≡ flat_map (λ c. c) cells → w ≡ flat_map (λ c. c) row → x ≡ repeated keep → y ≡ repeated got →
    first_chunks 4 4 (zip2 bit_or (zip2 bit_and v x) (zip2 bit_and w y)) ≡ zipped bit_or (some_bits keep cells) (some_bits got row)
fours_laid keep got cells row v w x y keep_long got_long four also are as_well is_v is_w is_x is_y =
    let h = long_cells 4 cells are in
    let k = long_cells 4 row as_well in
    let kept_four : length (some_bits keep cells) ≡ 4 = length-map cells (λ c. zip2 bit_and c keep) ∙ four in
    let got_four : length (some_bits got row) ≡ 4 = length-map row (λ c. zip2 bit_and c got) ∙ also in
    let kept_long = zipped_long bit_and 4 keep cells keep_long h in
    let taken_long = zipped_long bit_and 4 got row got_long k in
    let all_four : length (zipped bit_or (some_bits keep cells) (some_bits got row)) ≡ 4 =
    length-zip2 (λ (a b : List ℕ). zip2 bit_or a b) (some_bits keep cells) (some_bits got row) (kept_four ∙ sym got_four) ∙ kept_four in
    ap (first_chunks 4 4)
    (ap (λ l. zip2 bit_or l (zip2 bit_and w y)) (four_zipped bit_and keep cells v x keep_long four h is_v is_x)
    ∙ ap (zip2 bit_or (flat_map (λ c. c) (some_bits keep cells))) (four_zipped bit_and got row w y got_long also k is_w is_y)
    ∙ two_zipped bit_or 4 (some_bits keep cells) (some_bits got row) (kept_four ∙ sym got_four) kept_long taken_long)
    ∙ four_chunks (zipped bit_or (some_bits keep cells) (some_bits got row)) all_four (two_long bit_or 4 (some_bits keep cells) (some_bits got row) kept_long taken_long)

one_of : (keep got : List ℕ) (cells row : List (List ℕ)) (i : ℕ) → i < length cells → i < length row →
    get_or (zipped bit_or (some_bits keep cells) (some_bits got row)) i [] ≡ laid keep got (get_or row i []) (get_or cells i [])
one_of keep got cells row i h k =
    let kept_in : i < length (some_bits keep cells) = omega (arith, length-map cells (λ c. zip2 bit_and c keep)) in
    let got_in : i < length (some_bits got row) = omega (arith, length-map row (λ c. zip2 bit_and c got)) in
    get_or-zip2 (λ (a b : List ℕ). zip2 bit_or a b) (some_bits keep cells) (some_bits got row) i [] [] [] kept_in got_in
    ∙ ap (λ l. zip2 bit_or l (get_or (some_bits got row) i [])) (get_or-map (λ c. zip2 bit_and c keep) cells i [] [] h)
    ∙ ap (zip2 bit_or (zip2 bit_and (get_or cells i []) keep)) (get_or-map (λ c. zip2 bit_and c got) row i [] [] k)

-- four cells of a row that were laid over four others
pub four_laid : (keep got : List ℕ) (at : ℕ) (row old new : List (List ℕ)) (v w x y r : List ℕ) → at + 4 ≤ length old → length row ≡ 4 → length keep ≡ 4 → length got ≡ 4 →
    AreCells 4 (slice_range old at (at + 4)) → AreCells 4 row → v ≡ flat_map (λ c. c) (slice_range old at (at + 4)) → w ≡ flat_map (λ c. c) row → x ≡ repeated keep → y ≡ repeated got →
    r ≡ zip2 bit_or (zip2 bit_and v x) (zip2 bit_and w y) → Rewritten [] (in_range at (at + 4)) (λ k _. get_or (first_chunks 4 4 r) (k - at) []) old new →
    Rewritten [] (in_range at (at + 4)) (λ k o. laid keep got (get_or row (k - at) []) o) old new
four_laid keep got at row old new v w x y r room also keep_long got_long are as_well is_v is_w is_x is_y is_r s =
    let part : List (List ℕ) = slice_range old at (at + 4) in
    let part_long : length (slice_range old at (at + 4)) ≡ 4 = length-take (at + 4 - at) (drop at old) ∙ omega (arith, length-drop at old) in
    let made = ap (first_chunks 4 4) is_r ∙ fours_laid keep got (slice_range old at (at + 4)) row v w x y keep_long got_long part_long also are as_well is_v is_w is_x is_y in
    rewritten_by [] (in_range at (at + 4)) (λ k _. get_or (first_chunks 4 4 r) (k - at) []) (λ k o. laid keep got (get_or row (k - at) []) o) old new s
    (λ k h t.
    let b = covered_range at (at + 4) k t in
    let within : k - at < at + 4 - at = omega (arith, b.0, b.1) in
    let in_part : k - at < length (slice_range old at (at + 4)) = omega (arith, b.0, b.1) in
    let in_row : k - at < length row = omega (arith, b.0, b.1) in
    let place : at + (k - at) ≡ k = omega (arith, b.0) in
    ap (λ l. get_or l (k - at) []) made
    ∙ one_of keep got (slice_range old at (at + 4)) row (k - at) in_part in_row
    ∙ ap (laid keep got (get_or row (k - at) [])) (get_or-take (at + 4 - at) (drop at old) (k - at) [] within ∙ get_or-drop at old (k - at) [] ∙ ap (λ i. get_or old i []) place))

-- four more cells of a row
pub four_more : (keep got : List ℕ) (at done : ℕ) (row old mid new : List (List ℕ)) → Rewritten [] (in_range at (at + done)) (λ k o. laid keep got (get_or row (k - at) []) o) old mid →
    Rewritten [] (in_range (at + done) (at + done + 4)) (λ k o. laid keep got (get_or (slice_range row done (done + 4)) (k - (at + done)) []) o) mid new →
    Rewritten [] (in_range at (at + (done + 4))) (λ k o. laid keep got (get_or row (k - at) []) o) old new
four_more keep got at done row old mid new s t =
    let end : at + done + 4 ≡ at + (done + 4) = omega arith in
    subst (λ z. Rewritten [] (in_range at z) (λ k o. laid keep got (get_or row (k - at) []) o) old new) end
    (range_joined [] (λ k o. laid keep got (get_or row (k - at) []) o) old mid new at (at + done) (at + done + 4) s
    (rewritten_by [] (in_range (at + done) (at + done + 4)) (λ k o. laid keep got (get_or (slice_range row done (done + 4)) (k - (at + done)) []) o) (λ k o. laid keep got (get_or row (k - at) []) o) mid new t
    (λ k h c.
    let b = covered_range (at + done) (at + done + 4) k c in
    let within : k - (at + done) < done + 4 - done = omega (arith, b.0, b.1) in
    let place : done + (k - (at + done)) ≡ k - at = omega (arith, b.0) in
    ap (λ n. laid keep got n (get_or mid k []))
    (get_or-take (done + 4 - done) (drop done row) (k - (at + done)) [] within ∙ get_or-drop done row (k - (at + done)) [] ∙ ap (λ i. get_or row i []) place)))
    (omega arith) (omega arith))

-- and one more
pub one_laid : (keep got v : List ℕ) (row old new : List (List ℕ)) (at k : ℕ) → Rewritten [] (in_range at (at + k)) (λ j o. laid keep got (get_or row (j - at) []) o) old new → k < length row → at + length row ≤ length old →
    v ≡ laid keep got (get_or row k []) (get_or new (at + k) []) → Rewritten [] (in_range at (at + (k + 1))) (λ j o. laid keep got (get_or row (j - at) []) o) old (set new (at + k) v)
one_laid keep got v row old new at k s within room is =
    let fits : at + k < length new = omega (arith, s.long) in
    let same : k ≡ at + k - at = omega arith in
    range_more [] (λ j o. laid keep got (get_or row (j - at) []) o) old new at (at + k) (at + (k + 1)) v s (omega arith) fits (omega arith)
    (is ∙ ap (λ i. laid keep got (get_or row i []) (get_or new (at + k) [])) same)

-- ---- bits under a mask

abbrev made : ℕ → ℕ → ℕ → ℕ → Pixel
made r g b a = record { r = r; g = g; b = b; a = a }

taken_byte : (b : Bool) (y : ℕ) → y < 256 → bit_and y (cond b 255 0) ≡ cond b y 0
taken_byte true y h = all_kept y h
taken_byte false y h = none_kept y

taken_four : (m : Mask) (x y z w : ℕ) → x < 256 → y < 256 → z < 256 → w < 256 → zip2 bit_and (x ∷ y ∷ z ∷ w ∷ []) (takes m) ≡ puts m (made x y z w)
taken_four m x y z w a b c d = four_bytes _ _ _ _ _ _ _ _ (taken_byte m.r x a) (taken_byte m.g y b) (taken_byte m.b z c) (taken_byte m.a w d)

-- the bits that are taken of a cell are those that its pixel puts
pub taken_cell : (m : Mask) (n : List ℕ) → IsCell 4 n → zip2 bit_and n (takes m) ≡ puts m (unpack Rgba8888 n)
taken_cell m n h =
    ap (λ x. zip2 bit_and x (takes m)) (list_4 n h.long)
    ∙ taken_four m (get_or n 0 0) (get_or n 1 0) (get_or n 2 0) (get_or n 3 0) (h.bytes 0) (h.bytes 1) (h.bytes 2) (h.bytes 3)
    ∙ ap (puts m) (sym (four_read (get_or n 0 0) (get_or n 1 0) (get_or n 2 0) (get_or n 3 0) (h.bytes 0) (h.bytes 1) (h.bytes 2) (h.bytes 3)))
    ∙ ap (λ x. puts m (unpack Rgba8888 x)) (sym (list_4 n h.long))
