-- Rows of cells of Rgba8888: read from an image, changed in place, and laid over an image's own.
use Rattle.std.proofs.Common.{◌≡◌, ℕ, ◌+◌, ◌-◌, ◌<◌, ◌≤◌, true, cond, List, [], length, get_or, set, take, drop, refl, sym, ap, ◌∙◌, arith}
use Rattle.std.specs.Prelude.{slice_range, bit_and, bit_or}
use Rattle.std.specs.Simd.Lanes.{zip2}
use Rattle.std.proofs.lemmas.Bool.Decides.{nat_tests}
use Rattle.std.proofs.lemmas.List.{get_or-take, get_or-drop, get_or_default, length-take, length-drop}
use Rattle.pixel_formats.specs.Bounds.{IsBytes}
use Rattle.pixel_formats.specs.Formats.{bytes_of}
use Rattle.pixel_formats.specs.Pixels.{pack, quantize, unpack}
use Rattle.pixel_formats.specs.declared.formats.Format.{Format}
use Rattle.pixel_formats.specs.declared.formats.Format.TheVariants.{Rgba8888}
use Rattle.pixel_formats.specs.declared.pixels.Pixel.{Pixel}
use Rattle.pixel_rows.proofs.LaneCells.{blended_cell, eights_scaled, four_is, fours_kept, keeps_any}
use Rattle.pixel_rows.proofs.LaneRows.{taken_cell}
use Rattle.pixel_rows.proofs.Rewriting.{covered_range, range_more, rewritten_as, rewritten_by}
use Rattle.pixel_rows.proofs.RowWrites.{from_start, last_inside}
use Rattle.pixel_rows.proofs.Seen.{get_or-seen, length-seen, rewritten_seen}
use Rattle.pixel_rows.proofs.Stored.{IsBytes-masked, IsBytes-unpack, masked-whole, quantize-unpack, unpack-blended, unpack-stored, unpack-whole}
use Rattle.pixel_rows.specs.Blocks.{Rewritten, in_range}
use Rattle.pixel_rows.specs.Cells.{AreCells, IsCell, blended, converted, seen}
use Rattle.pixel_rows.specs.Images.{no_pixel}
use Rattle.pixel_rows.specs.Lanes.{bytes_in, keeps, kept_or_put, laid, multiplied, puts, scaled, takes}
use Rattle.pixel_rows.specs.Masks.{is_whole, mask_in, masked, written}
use Rattle.pixel_rows.specs.declared.masks.Mask.{Mask}

-- ---- rows that were read

in_front : (n k : ℕ) → k < n → in_range 0 n k ≡ true
in_front n k h = grind (arith, nat_tests)

-- what a list from its first place on became
each_of : {A : Type 0} (d : A) (t : ℕ → A) (n : ℕ) (old new : List A) → Rewritten d (in_range 0 n) (λ k _. t k) old new → n ≤ length old → (k : ℕ) → k < n → get_or new k d ≡ t k
each_of d t n old new s room k h = s.each k (omega arith) ∙ ap (λ b. cond b (t k) (get_or old k d)) (in_front n k h)

widened_read : (f : Format) (c : List ℕ) → unpack Rgba8888 (converted 4 Rgba8888 f c) ≡ unpack f c
unfolding converted
widened_read f c = unpack-stored Rgba8888 (unpack f c) (IsBytes-unpack f c) ∙ keeps_any (unpack f c)

-- one more cell of some columns
pub read_more : (f : Format) (px : Pixel) (source : List (List ℕ)) (columns : List ℕ) (first : ℕ) (old new : List (List ℕ)) (k : ℕ) (c v : List ℕ) →
    Rewritten [] (in_range 0 k) (λ j _. converted 4 Rgba8888 f (get_or source (first + get_or columns j 0) [])) old new → k < length columns → length old ≡ length columns →
    first + get_or columns k 0 < length source → c ≡ get_or source (first + get_or columns k 0) c → px ≡ unpack f c → v ≡ take 4 (pack Rgba8888 px) →
    Rewritten [] (in_range 0 (k + 1)) (λ j _. converted 4 Rgba8888 f (get_or source (first + get_or columns j 0) [])) old (set new k v)
unfolding converted
read_more f px source columns first old new k c v s within room inside is read packed =
    let fits : k < length new = omega (arith, s.long) in
    range_more [] (λ j _. converted 4 Rgba8888 f (get_or source (first + get_or columns j 0) [])) old new 0 k (k + 1) v s (omega arith) fits refl
    (packed ∙ ap (λ x. take 4 (pack Rgba8888 x)) (read ∙ ap (unpack f) (is ∙ get_or_default source (first + get_or columns k 0) c [] inside)))

-- cells of some columns, as the pixels that they are
pub columns_read : (f : Format) (first : ℕ) (columns : List ℕ) (source old new : List (List ℕ)) → length old ≡ length columns → ((k : ℕ) → k < length columns → first + get_or columns k 0 < length source) →
    Rewritten [] (in_range 0 (length columns)) (λ k _. converted 4 Rgba8888 f (get_or source (first + get_or columns k 0) [])) old new →
    (k : ℕ) → k < length columns → get_or (seen Rgba8888 new) k no_pixel ≡ get_or (seen f source) (first + get_or columns k 0) no_pixel
columns_read f first columns source old new long inside s k h =
    let within : k < length new = omega (arith, s.long) in
    get_or-seen Rgba8888 new k within
    ∙ ap (unpack Rgba8888) (each_of [] (λ j. converted 4 Rgba8888 f (get_or source (first + get_or columns j 0) [])) (length columns) old new s (omega arith) k h)
    ∙ widened_read f (get_or source (first + get_or columns k 0) [])
    ∙ sym (get_or-seen f source (first + get_or columns k 0) (inside k h))

-- the same where they are converted as one run
pub run_read : (f : Format) (first column : ℕ) (columns : List ℕ) (source row old new : List (List ℕ)) → length old ≡ length columns → ((k : ℕ) → k < length columns → first + get_or columns k 0 < length source) →
    0 < length columns → ((k : ℕ) → k < length columns → get_or columns k 0 ≡ column + k) → row ≡ slice_range source (first + column) (first + column + length columns) →
    Rewritten [] (in_range 0 (0 + length row)) (λ k _. converted 4 Rgba8888 f (get_or row (k - 0) [])) old new →
    (k : ℕ) → k < length columns → get_or (seen Rgba8888 new) k no_pixel ≡ get_or (seen f source) (first + get_or columns k 0) no_pixel
run_read f first column columns source row old new long inside some run cut s =
    let room : first + column + length columns ≤ length source = last_inside columns first column (length source) some run inside in
    let count : first + column + length columns - (first + column) ≡ length columns = omega arith in
    let wide : length row ≡ length columns =
    ap length cut ∙ length-take (first + column + length columns - (first + column)) (drop (first + column) source) ∙ omega (arith, length-drop (first + column) source) in
    columns_read f first columns source old new long inside
    (rewritten_as [] _ _ _ _ _
    (rewritten_by [] (in_range 0 (0 + length row)) (λ k _. converted 4 Rgba8888 f (get_or row (k - 0) [])) (λ k _. converted 4 Rgba8888 f (get_or source (first + get_or columns k 0) [])) old new s
    (λ k h w.
    let b = covered_range 0 (0 + length row) k w in
    let i : k < length columns = omega (arith, b.1) in
    let i_take : k - 0 < first + column + length columns - (first + column) = omega (arith, b.1) in
    let place : first + column + (k - 0) ≡ first + get_or columns k 0 = omega (arith, run k i) in
    ap (converted 4 Rgba8888 f)
    (ap (λ r. get_or r (k - 0) []) cut
    ∙ get_or-take (first + column + length columns - (first + column)) (drop (first + column) source) (k - 0) [] i_take
    ∙ get_or-drop (first + column) source (k - 0) []
    ∙ ap (λ j. get_or source j []) place)))
    (λ k h. ap (λ n. in_range 0 n k) (omega arith)))

-- and where they are copied
pub fours_read : (f : Format) (first : ℕ) (columns : List ℕ) (source old new : List (List ℕ)) → 4 ≡ bytes_of f → length old ≡ length columns →
    Rewritten no_pixel (in_range 0 (0 + length columns)) (λ k _. get_or (seen f source) (first + get_or columns (k - 0) 0) no_pixel) (seen f old) (seen f new) →
    (k : ℕ) → k < length columns → get_or (seen Rgba8888 new) k no_pixel ≡ get_or (seen f source) (first + get_or columns k 0) no_pixel
fours_read f first columns source old new four long s k h =
    let same : k - 0 ≡ k = omega arith in
    ap (λ z. get_or (seen z new) k no_pixel) (sym (four_is f four))
    ∙ each_of no_pixel (λ j. get_or (seen f source) (first + get_or columns (j - 0) 0) no_pixel) (0 + length columns) (seen f old) (seen f new) s (omega (arith, length-seen f old)) k (omega arith)
    ∙ ap (λ j. get_or (seen f source) (first + get_or columns j 0) no_pixel) same

-- ---- rows that were changed in place

each_became : {A : Type 0} (d : A) (g : A → A) (n : ℕ) (old new : List A) → Rewritten d (in_range 0 n) (λ _ o. g o) old new → n ≡ length old → (k : ℕ) → k < length old → get_or new k d ≡ g (get_or old k d)
each_became d g n old new s e k h = s.each k h ∙ ap (λ b. cond b (g (get_or old k d)) (get_or old k d)) (in_front n k (omega arith))

pub row_scaled : (by : Pixel) (n : ℕ) (b : List ℕ) (old new : List (List ℕ)) → IsBytes by → b ≡ bytes_in by → AreCells 4 old → n ≡ length old →
    Rewritten [] (in_range 0 n) (λ _ o. multiplied b o) old new → (k : ℕ) → k < length old → get_or (seen Rgba8888 new) k no_pixel ≡ scaled by (get_or (seen Rgba8888 old) k no_pixel)
row_scaled by n b old new small e cells long s k h =
    each_became no_pixel (scaled by) n (seen Rgba8888 old) (seen Rgba8888 new) (eights_scaled by 0 n b old new small e cells s) (long ∙ sym (length-seen Rgba8888 old)) k (omega (arith, length-seen Rgba8888 old))

masked_read : (m : Mask) (q : Pixel) (c : List ℕ) → IsBytes q → unpack Rgba8888 (blended 4 Rgba8888 m q c) ≡ masked m (unpack Rgba8888 c) q
unfolding blended
masked_read m q c h =
    unpack-stored Rgba8888 (masked m (unpack Rgba8888 c) q) (IsBytes-masked m (unpack Rgba8888 c) q (IsBytes-unpack Rgba8888 c) h) ∙ keeps_any (masked m (unpack Rgba8888 c) q)

pub row_set : (m : Mask) (q : Pixel) (n : ℕ) (keep put : List ℕ) (old new : List (List ℕ)) → IsBytes q → AreCells 4 old → keep ≡ keeps m → put ≡ puts m q → n ≡ length old →
    Rewritten [] (in_range 0 n) (λ _ o. kept_or_put keep put o) old new → (k : ℕ) → k < length old → get_or (seen Rgba8888 new) k no_pixel ≡ masked m (get_or (seen Rgba8888 old) k no_pixel) q
row_set m q n keep put old new small cells e h long s k l =
    each_became no_pixel (λ o. masked m o q) n (seen Rgba8888 old) (seen Rgba8888 new)
    (rewritten_seen Rgba8888 (in_range 0 n) (λ _ c. blended 4 Rgba8888 m q c) (λ _ o. masked m o q) old new (fours_kept Rgba8888 m q 0 n keep put old new refl small cells e h s)
    (λ j c i t. masked_read m q c small))
    (long ∙ sym (length-seen Rgba8888 old)) k (omega (arith, length-seen Rgba8888 old))

-- ---- rows that were laid over an image's own

-- one more cell of which some components were laid
pub lay_more : (n : ℕ) (f : Format) (mask : Mask) (px np q m : Pixel) (row old new : List (List ℕ)) (at k : ℕ) (c v : List ℕ) →
    Rewritten [] (in_range at (at + k)) (λ j o. blended n f mask (quantize f (unpack Rgba8888 (get_or row (j - at) []))) o) old new → k < length row → at + length row ≤ length old →
    c ≡ get_or new (at + k) c → px ≡ unpack f c → np ≡ unpack Rgba8888 (get_or row k []) → q ≡ quantize f np → m ≡ masked mask px q → v ≡ take n (pack f m) →
    Rewritten [] (in_range at (at + (k + 1))) (λ j o. blended n f mask (quantize f (unpack Rgba8888 (get_or row (j - at) []))) o) old (set new (at + k) v)
unfolding blended
lay_more n f mask px np q m row old new at k c v s within room is read taken rounded mixed packed =
    let fits : at + k < length new = omega (arith, s.long) in
    let same : k ≡ at + k - at = omega arith in
    range_more [] (λ j o. blended n f mask (quantize f (unpack Rgba8888 (get_or row (j - at) []))) o) old new at (at + k) (at + (k + 1)) v s (omega arith) fits (omega arith)
    (packed ∙ ap (λ x. take n (pack f x)) mixed
    ∙ ap (λ x. take n (pack f (masked mask x q))) (read ∙ ap (unpack f) (is ∙ get_or_default new (at + k) c [] fits))
    ∙ ap (λ x. take n (pack f (masked mask (unpack f (get_or new (at + k) [])) x))) (rounded ∙ ap (quantize f) (taken ∙ ap (λ i. unpack Rgba8888 (get_or row i [])) same)))

in_row : (at : ℕ) (row : List (List ℕ)) (k : ℕ) → in_range at (at + length row) k ≡ true → k - at < length row
in_row at row k t = from_start at (length row) k (covered_range at (at + length row) k t)

-- what a cell of the row reads as
shown : (at : ℕ) (row : List (List ℕ)) (k : ℕ) → in_range at (at + length row) k ≡ true → unpack Rgba8888 (get_or row (k - at) []) ≡ get_or (seen Rgba8888 row) (k - at) no_pixel
shown at row k t = sym (get_or-seen Rgba8888 row (k - at) (in_row at row k t))

-- a row of which some components were laid
pub row_blended : (f : Format) (n at : ℕ) (mask m : Mask) (row old new : List (List ℕ)) → n ≡ bytes_of f → m ≡ mask_in f mask →
    Rewritten [] (in_range at (at + length row)) (λ k o. blended n f m (quantize f (unpack Rgba8888 (get_or row (k - at) []))) o) old new →
    Rewritten no_pixel (in_range at (at + length row)) (λ k o. written f mask o (get_or (seen Rgba8888 row) (k - at) no_pixel)) (seen f old) (seen f new)
row_blended f n at mask m row old new wide is s =
    rewritten_seen f (in_range at (at + length row)) (λ k o. blended n f m (quantize f (unpack Rgba8888 (get_or row (k - at) []))) o) (λ k o. written f mask o (get_or (seen Rgba8888 row) (k - at) no_pixel)) old new s
    (λ k c l t. ap (λ x. unpack f (blended n f x (quantize f (unpack Rgba8888 (get_or row (k - at) []))) c)) is
    ∙ unpack-blended f n mask (unpack Rgba8888 (get_or row (k - at) [])) c wide (IsBytes-unpack Rgba8888 (get_or row (k - at) []))
    ∙ ap (written f mask (unpack f c)) (shown at row k t))

-- a row that was laid whole
pub row_narrowed : (f : Format) (n at : ℕ) (mask : Mask) (row old new : List (List ℕ)) → n ≡ bytes_of f → is_whole f mask ≡ true →
    Rewritten [] (in_range at (at + length row)) (λ k _. converted n f Rgba8888 (get_or row (k - at) [])) old new →
    Rewritten no_pixel (in_range at (at + length row)) (λ k o. written f mask o (get_or (seen Rgba8888 row) (k - at) no_pixel)) (seen f old) (seen f new)
unfolding converted
row_narrowed f n at mask row old new wide whole s =
    rewritten_seen f (in_range at (at + length row)) (λ k _. converted n f Rgba8888 (get_or row (k - at) [])) (λ k o. written f mask o (get_or (seen Rgba8888 row) (k - at) no_pixel)) old new s
    (λ k c l t. unpack-whole f n mask (unpack Rgba8888 (get_or row (k - at) [])) c (take n (pack f (unpack Rgba8888 (get_or row (k - at) [])))) refl wide (IsBytes-unpack Rgba8888 (get_or row (k - at) [])) whole
    ∙ ap (written f mask (unpack f c)) (shown at row k t))

kept_whole : (f : Format) (mask : Mask) (c n : List ℕ) → is_whole f mask ≡ true → unpack f n ≡ written f mask (unpack f c) (unpack f n)
kept_whole f mask c n whole =
    sym (ap (masked (mask_in f mask) (unpack f c)) (quantize-unpack f n) ∙ masked-whole f mask (unpack f c) (unpack f n) (quantize-unpack f c) (quantize-unpack f n) whole)

-- a row that was copied
pub row_copied : (f : Format) (at : ℕ) (mask : Mask) (row old new : List (List ℕ)) → 4 ≡ bytes_of f → is_whole f mask ≡ true →
    Rewritten [] (in_range at (at + length row)) (λ k _. get_or row (k - at) []) old new →
    Rewritten no_pixel (in_range at (at + length row)) (λ k o. written f mask o (get_or (seen Rgba8888 row) (k - at) no_pixel)) (seen f old) (seen f new)
row_copied f at mask row old new four whole s =
    rewritten_seen f (in_range at (at + length row)) (λ k _. get_or row (k - at) []) (λ k o. written f mask o (get_or (seen Rgba8888 row) (k - at) no_pixel)) old new s
    (λ k c l t. kept_whole f mask c (get_or row (k - at) []) whole
    ∙ ap (λ z. written f mask (unpack f c) (unpack z (get_or row (k - at) []))) (four_is f four)
    ∙ ap (written f mask (unpack f c)) (shown at row k t))

laid_cell : (f : Format) (m : Mask) (n o keep got : List ℕ) → f ≡ Rgba8888 → IsCell 4 n → IsCell 4 o → keep ≡ keeps m → got ≡ takes m →
    laid keep got n o ≡ blended 4 f m (quantize f (unpack Rgba8888 n)) o
laid_cell f m n o keep got is new was e h =
    ap (λ x. laid x got n o) e ∙ ap (λ x. laid (keeps m) x n o) h
    ∙ ap (zip2 bit_or (zip2 bit_and o (keeps m))) (taken_cell m n new)
    ∙ blended_cell m (unpack Rgba8888 n) o (IsBytes-unpack Rgba8888 n) was
    ∙ ap (λ q. blended 4 Rgba8888 m q o) (sym (keeps_any (unpack Rgba8888 n)))
    ∙ ap (λ x. blended 4 x m (quantize x (unpack Rgba8888 n)) o) (sym is)

-- a row that was laid by lanes
pub row_laid : (f : Format) (at : ℕ) (mask m : Mask) (keep got : List ℕ) (row old new : List (List ℕ)) → 4 ≡ bytes_of f → AreCells 4 row → AreCells 4 old → m ≡ mask_in f mask → keep ≡ keeps m → got ≡ takes m →
    Rewritten [] (in_range at (at + length row)) (λ k o. laid keep got (get_or row (k - at) []) o) old new →
    Rewritten no_pixel (in_range at (at + length row)) (λ k o. written f mask o (get_or (seen Rgba8888 row) (k - at) no_pixel)) (seen f old) (seen f new)
row_laid f at mask m keep got row old new four cells olds is e h s =
    row_blended f 4 at mask m row old new four is
    (rewritten_by [] (in_range at (at + length row)) (λ k o. laid keep got (get_or row (k - at) []) o) (λ k o. blended 4 f m (quantize f (unpack Rgba8888 (get_or row (k - at) []))) o) old new s
    (λ k l t. laid_cell f m (get_or row (k - at) []) (get_or old k []) keep got (four_is f four) (cells (k - at) (in_row at row k t)) (olds k l) e h))
