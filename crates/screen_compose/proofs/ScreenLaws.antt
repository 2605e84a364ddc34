-- A screen of which nothing is shown yet, and what its sides are.
use Rattle.std.proofs.Common.{◌≡◌, ℕ, ◌<◌, ◌≤◌, ◌*◌, List, [], ◌∷◌, true, ◌&&◌, map, length, replicate, refl, sym, ap, ◌∙◌, subst, arith}
use Rattle.std.specs.Prelude.{nat_le}
use Rattle.std.specs.List.{range_with_len}
use Rattle.std.proofs.Math.Nat.{mul-le-mul}
use Rattle.std.proofs.lemmas.Bool.Decides.{nat_tests}
use Rattle.std.proofs.lemmas.List.{ext_get_or, get_or-replicate, length-replicate}
use Rattle.std.proofs.lemmas.List.Folds.{flat_map-map}
use Rattle.std.proofs.lemmas.List.FromFn.{get_or-map-range_with_len, length-map-range_with_len}
use Rattle.std.proofs.lemmas.Bool.{and_parts}
use Rattle.pixel_formats.specs.declared.pixels.Pixel.{Pixel}
use Rattle.pixel_rows.proofs.LawsHold.{length-flat}
use Rattle.pixel_rows.specs.Images.{no_pixel}
use Rattle.screen_compose.specs.Composing.{black, composed, composed_row, covered_by}
use Rattle.screen_compose.specs.Fronts.{FrontsValue, LayerValue, bare_layer, no_fronts, placed_in}
use Rattle.screen_compose.specs.Placing.{are_placed, is_side, screen_ok}
use Rattle.screen_compose.specs.Screens.{Shows, pixel_bytes, row_bytes, picture_bytes}
use Rattle.screen_compose.specs.declared.placed.Placed.{Placed}
use Rattle.screen_compose.proofs.Changing.{length-composed}

all_same : {A : Type 0} (f : ℕ → A) (a d : A) (n : ℕ) → ((x : ℕ) → f x ≡ a) → map f (range_with_len 0 n) ≡ replicate n a
all_same f a d n e =
    ext_get_or d (map f (range_with_len 0 n)) (replicate n a) (length-map-range_with_len f 0 n ∙ sym (length-replicate n a))
    (λ i h. let b : i < n = omega (arith, h, length-map-range_with_len f 0 n) in get_or-map-range_with_len f 0 n i i d b (omega arith) ∙ e i ∙ sym (get_or-replicate n i a d b))

bare_pixel : (placed : List Placed) (x y : ℕ) → covered_by (map bare_layer placed) x y black ≡ black
bare_pixel [] x y = refl
bare_pixel (p ∷ ps) x y = bare_pixel ps x y

bare_row : (placed : List Placed) (w y : ℕ) → composed_row (map bare_layer placed) w y ≡ replicate w black
unfolding composed_row
bare_row placed w y = all_same (λ x. covered_by (map bare_layer placed) x y black) black no_pixel w (λ x. bare_pixel placed x y)

pub bare_screen : (placed : List Placed) (w h : ℕ) → composed (map bare_layer placed) w h ≡ replicate h (replicate w black)
unfolding composed
bare_screen placed w h = all_same (composed_row (map bare_layer placed) w) (replicate w black) [] h (λ y. bare_row placed w y)

bare_placed : (placed : List Placed) → placed_in (map bare_layer placed) ≡ placed
bare_placed [] = refl
bare_placed (p ∷ ps) = ap (λ xs. p ∷ xs) (bare_placed ps)

below : (n m : ℕ) → nat_le n m ≡ true → n ≤ m
below n m h = grind (arith, nat_tests, h)

record Sides (w h : ℕ) (placed : List Placed) : Type 0 where
  wide : w ≤ 2048
  high : h ≤ 2048
  few : length placed ≤ 64

sides : (w h : ℕ) (placed : List Placed) → screen_ok w h placed ≡ true → Sides w h placed
sides w h placed ok =
    let a = and_parts (is_side w && is_side h && nat_le (length placed) 64) (are_placed placed) ok in
    let b = and_parts (is_side w && is_side h) (nat_le (length placed) 64) a.0 in
    let c = and_parts (is_side w) (is_side h) b.0 in
    record {
      wide = below w 2048 (and_parts (nat_le 1 w) (nat_le w 2048) c.0).1;
      high = below h 2048 (and_parts (nat_le 1 h) (nat_le h 2048) c.1).1;
      few = below (length placed) 64 b.1;
    }

pub shows_nothing : (w h : ℕ) (placed list : List Placed) (fronts : FrontsValue) (rows : List (List Pixel)) → screen_ok w h placed ≡ true → list ≡ placed → fronts ≡ no_fronts placed → rows ≡ replicate h (replicate w black) → Shows w h list fronts rows
shows_nothing w h placed list fronts rows ok l f e =
    let s = sides w h placed ok in
    subst (λ (x : List Placed). Shows w h x fronts rows) (sym l)
    (subst (λ (x : FrontsValue). Shows w h placed x rows) (sym f)
    (record { wide = s.wide; high = s.high; few = s.few; same = bare_placed placed; shown = e ∙ sym (bare_screen placed w h) }))

pub rows_long : (w h : ℕ) (placed : List Placed) (fronts : FrontsValue) (rows : List (List Pixel)) → Shows w h placed fronts rows → length rows ≡ h
rows_long w h placed fronts rows s = ap length s.shown ∙ length-composed fronts.layers w h

pub few_rows : (w h : ℕ) (placed : List Placed) (fronts : FrontsValue) (rows : List (List Pixel)) → Shows w h placed fronts rows → length rows ≤ 2048
few_rows w h placed fronts rows s = omega (arith, rows_long w h placed fronts rows s, s.high)

-- ---- A picture's bytes: four a pixel.
row_long : (layers : List LayerValue) (w y : ℕ) → length (row_bytes (composed_row layers w y)) ≡ w * 4
unfolding composed_row
row_long layers w y =
    let pixel : ℕ → Pixel = λ x. covered_by layers x y black in
    ap (λ (bs : List ℕ). length bs) (flat_map-map pixel_bytes pixel (range_with_len 0 w)) ∙ length-flat (λ x. pixel_bytes (pixel x)) 4 w 0 (λ x. refl)

picture_long : (layers : List LayerValue) (w h : ℕ) → length (picture_bytes (composed layers w h)) ≡ h * (w * 4)
unfolding composed picture_bytes
picture_long layers w h =
    ap (λ (bs : List ℕ). length bs) (flat_map-map row_bytes (composed_row layers w) (range_with_len 0 h)) ∙ length-flat (λ y. row_bytes (composed_row layers w y)) (w * 4) h 0 (row_long layers w)

pub few_bytes : (w h : ℕ) (placed : List Placed) (fronts : FrontsValue) (rows : List (List Pixel)) → Shows w h placed fronts rows → length (picture_bytes (composed fronts.layers w h)) ≤ 16777216
few_bytes w h placed fronts rows s =
    let four : w * 4 ≤ 8192 = omega (arith, s.wide) in
    omega (arith, picture_long fronts.layers w h, mul-le-mul s.high four)
