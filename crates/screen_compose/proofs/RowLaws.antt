-- What is left to lay over a row.
use Rattle.std.proofs.Common.{◌≡◌, ℕ, ◌+◌, ◌<◌, ◌≢◌, suc, List, [], ◌∷◌, ◌++◌, false, ◌&&◌, map, length, get_or, drop, replicate, refl, sym, ap, ◌∙◌, arith}
use Rattle.std.specs.List.{range_with_len}
use Rattle.std.proofs.Math.Seq.{drop-cons}
use Rattle.std.proofs.lemmas.List.{ext_get_or, get_or-replicate, length-replicate}
use Rattle.std.proofs.lemmas.List.FromFn.{get_or-map-range_with_len, length-map-range_with_len, map-range_with_len_more}
use Rattle.egl_calls.proofs.Truths.{and_false}
use Rattle.pixel_formats.specs.declared.pixels.Pixel.{Pixel}
use Rattle.pixel_rows.specs.Images.{ImageValue, no_pixel, pixel_at}
use Rattle.screen_compose.specs.Composing.{black, composed_row, covered, covered_by, row_at}
use Rattle.screen_compose.specs.Changes.{are_same_pixels, is_same_pixel}
use Rattle.screen_compose.specs.Fronts.{LayerValue, first_rows, pixels_in, row_in}

-- a row is composed whose pixels are
pub row_is : (layers : List LayerValue) (w y : ℕ) (row : List Pixel) → length row ≡ w → ((x : ℕ) → x < w → get_or row x no_pixel ≡ covered_by layers x y black) → row ≡ composed_row layers w y
unfolding composed_row
row_is layers w y row long each =
    let f : ℕ → Pixel = λ x. covered_by layers x y black in
    ext_get_or no_pixel row (map f (range_with_len 0 w)) (long ∙ sym (length-map-range_with_len f 0 w)) (λ i h. let b : i < w = omega (arith, h, long) in each i b ∙ sym (get_or-map-range_with_len f 0 w i i no_pixel b (omega arith)))

pub length-composed_row : (layers : List LayerValue) (w y : ℕ) → length (composed_row layers w y) ≡ w
unfolding composed_row
length-composed_row layers w y = length-map-range_with_len (λ x. covered_by layers x y black) 0 w

-- ---- The pixels of an image's row, one after another.
pub no_pixels : (v : ImageValue) (y : ℕ) → pixels_in v y 0 ≡ []
unfolding pixels_in
no_pixels v y = refl

pub pixel_more : (v : ImageValue) (y n : ℕ) → pixels_in v y (n + 1) ≡ pixels_in v y n ++ pixel_at v n y ∷ []
unfolding pixels_in
pixel_more v y n = map-range_with_len_more (λ x. pixel_at v x y) 0 n n (omega arith)

pub no_rows : (v : ImageValue) → first_rows v 0 ≡ []
unfolding first_rows
no_rows v = refl

pub row_more : (v : ImageValue) (n : ℕ) → first_rows v (n + 1) ≡ first_rows v n ++ row_in v n ∷ []
unfolding first_rows
row_more v n = map-range_with_len_more (row_in v) 0 n n (omega arith)

-- ---- A row that is made black, and the layers that lie over it.
pub all_black : (old new : List Pixel) → length new ≡ length old → ((j : ℕ) → j < length old → get_or new j no_pixel ≡ black) → new ≡ replicate (length old) black
all_black old new l e =
    ext_get_or no_pixel new (replicate (length old) black) (l ∙ sym (length-replicate (length old) black))
    (λ i h. let b : i < length old = omega (arith, h, l) in e i b ∙ sym (get_or-replicate (length old) i black no_pixel b))

pub one_layer : (layers : List LayerValue) (k x y : ℕ) (d l : LayerValue) (c : Pixel) → k < length layers → get_or layers k d ≡ l → covered_by (drop (k + 1) layers) x y (covered l.placed.x (row_at l y) x c) ≡ covered_by (drop k layers) x y c
one_layer layers k x y d l c h e =
    let n : suc k ≡ k + 1 = omega arith in
    let cut : drop k layers ≡ l ∷ drop (k + 1) layers = drop-cons layers k d h ∙ ap (λ (i : LayerValue). i ∷ drop (suc k) layers) e ∙ ap (λ j. l ∷ drop j layers) n in
    sym (ap (λ ls. covered_by ls x y c) cut)

pub row_from : (layers given : List LayerValue) (old start new : List Pixel) (y : ℕ) → given ≡ layers → start ≡ replicate (length old) black → length new ≡ length start → ((x : ℕ) → x < length start → get_or new x no_pixel ≡ covered_by given x y (get_or start x no_pixel)) → new ≡ composed_row layers (length old) y
row_from layers given old start new y g s l e =
    let n : length start ≡ length old = ap length s ∙ length-replicate (length old) black in
    row_is layers (length old) y new (l ∙ n)
    (λ x h. let b : x < length start = omega (arith, h, n) in e x b ∙ ap (λ ls. covered_by ls x y (get_or start x no_pixel)) g ∙ ap (covered_by layers x y) (ap (λ r. get_or r x no_pixel) s ∙ get_or-replicate (length old) x black no_pixel h))

-- ---- Rows of other lengths aren't the same.
pub other_length : (ps qs : List Pixel) → length ps ≢ length qs → are_same_pixels ps qs ≡ false
other_length [] [] ne = absurd (ne refl)
other_length [] (q ∷ qs) ne = refl
other_length (p ∷ ps) [] ne = refl
other_length (p ∷ ps) (q ∷ qs) ne = ap (λ b. is_same_pixel p q && b) (other_length ps qs (λ e. ne (ap suc e))) ∙ and_false (is_same_pixel p q)
