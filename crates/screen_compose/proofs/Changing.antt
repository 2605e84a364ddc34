-- A row that doesn't change is composed already.
use Rattle.std.proofs.Common.{◌≡◌, ℕ, zero, suc, ◌+◌, ◌<◌, ◌≤◌, List, [], ◌∷◌, Bool, true, false, cond, ◌&&◌, ◌==◌, map, length, get_or, set, refl, sym, ap, ◌∙◌, arith, min, drop, subst, Option, None, Some, inl, inr, length-set}
use Rattle.std.specs.List.{count_by, range_with_len, sum_by}
use Rattle.std.proofs.lemmas.Bool.{cases_eq, eqb-true, and_parts, not-false, or_parts}
use Rattle.std.proofs.lemmas.List.{ext_get_or, get_or-set_same, get_or-set_other, map-id}
use Rattle.std.proofs.lemmas.List.FromFn.{get_or-map-range_with_len, length-map-range_with_len, sum_by-map-range_with_len_more}
use Rattle.pixel_formats.specs.declared.pixels.Pixel.{Pixel}
use Rattle.screen_compose.specs.Changes.{are_same_pixels, differ, is_changed, is_same_pixel}
use Rattle.screen_compose.specs.Composing.{black, composed, composed_row, covered, covered_by, row_at}
use Rattle.screen_compose.specs.Fronts.{LayerValue, placed_in}
use Rattle.screen_compose.specs.declared.placed.Placed.{Placed}
use Rattle.screen_compose.proofs.RowLaws.{length-composed_row}

-- ---- Rows with the same pixels are one row.
same_pixel : (p q : Pixel) → is_same_pixel p q ≡ true → p ≡ q
same_pixel p q h =
    let first = and_parts ((p.r == q.r) && (p.g == q.g) && (p.b == q.b)) (p.a == q.a) h in
    let second = and_parts ((p.r == q.r) && (p.g == q.g)) (p.b == q.b) first.0 in
    let third = and_parts (p.r == q.r) (p.g == q.g) second.0 in
    let r = eqb-true p.r q.r third.0 in let g = eqb-true p.g q.g third.1 in
    let b = eqb-true p.b q.b second.1 in let a = eqb-true p.a q.a first.1 in
    λ i. record { r = r i; g = g i; b = b i; a = a i }

same_pixels : (ps qs : List Pixel) → are_same_pixels ps qs ≡ true → ps ≡ qs
same_pixels [] [] h = refl
same_pixels [] (q ∷ qs) h = absurd (let f : false ≡ true = h in cc)
same_pixels (p ∷ ps) [] h = absurd (let f : false ≡ true = h in cc)
same_pixels (p ∷ ps) (q ∷ qs) h =
    let e = and_parts (is_same_pixel p q) (are_same_pixels ps qs) h in
    let a = same_pixel p q e.0 in let b = same_pixels ps qs e.1 in λ i. a i ∷ b i

same_row : (old new : Option (List Pixel)) → differ old new ≡ false → old ≡ new
same_row None None h = refl
same_row None (Some new) h = absurd (let f : true ≡ false = h in cc)
same_row (Some old) None h = absurd (let f : true ≡ false = h in cc)
same_row (Some old) (Some new) h = ap Some (same_pixels old new (not-false (are_same_pixels old new) h))

-- ---- The same rows of the same windows lie over it.
heads : (p q : Placed) (ps qs : List Placed) → (p ∷ ps) ≡ (q ∷ qs) → (p ≡ q) × (ps ≡ qs)
heads p q ps qs e = (ap (λ xs. get_or xs 0 p) e, ap rest e)
  where
    rest : List Placed → List Placed
    rest [] = []
    rest (x ∷ xs) = xs

same_cover : (olds news : List LayerValue) (x y : ℕ) (c : Pixel) → placed_in olds ≡ placed_in news → is_changed olds news y ≡ false → covered_by olds x y c ≡ covered_by news x y c
same_cover [] [] x y c e h = refl
same_cover [] (n ∷ news) x y c e h = absurd (let f : 0 ≡ suc (length (placed_in news)) = ap length e in omega (arith, f))
same_cover (o ∷ olds) [] x y c e h = absurd (let f : suc (length (placed_in olds)) ≡ 0 = ap length e in omega (arith, f))
same_cover (o ∷ olds) (n ∷ news) x y c e h =
    let d = or_parts (differ (row_at o y) (row_at n y)) (is_changed olds news y) h in
    let p = heads o.placed n.placed (placed_in olds) (placed_in news) e in
    let r = same_row (row_at o y) (row_at n y) d.0 in
    same_cover olds news x y (covered o.placed.x (row_at o y) x c) p.1 d.1
    ∙ ap (λ (b : Placed). covered_by news x y (covered b.x (row_at o y) x c)) p.0
    ∙ ap (λ (b : Option (List Pixel)). covered_by news x y (covered n.placed.x b x c)) r

pub same_composed : (olds news : List LayerValue) (w y : ℕ) → placed_in olds ≡ placed_in news → is_changed olds news y ≡ false → composed_row olds w y ≡ composed_row news w y
unfolding composed_row
same_composed olds news w y e h = each (range_with_len 0 w)
  where
    each : (xs : List ℕ) → map (λ x. covered_by olds x y black) xs ≡ map (λ x. covered_by news x y black) xs
    each [] = refl
    each (x ∷ xs) = let a = same_cover olds news x y black e h in let b = each xs in λ i. a i ∷ b i

-- ---- The rows, one after another.
-- the rows below y are composed of the new fronts, and the others are as they were
pub record Recomposed (news : List LayerValue) (w : ℕ) (old new : List (List Pixel)) (y : ℕ) : Type 0 where
  pub long : length new ≡ length old
  pub done : (j : ℕ) → j < y → j < length old → get_or new j [] ≡ composed_row news w j
  pub left : (j : ℕ) → y ≤ j → get_or new j [] ≡ get_or old j []

pub none_yet : (news : List LayerValue) (w : ℕ) (old : List (List Pixel)) → Recomposed news w old old 0
none_yet news w old = record { long = refl; done = λ j h l. absurd (omega (arith, h)); left = λ j h. refl }

pub one_more : (news : List LayerValue) (w : ℕ) (old new : List (List Pixel)) (y : ℕ) → Recomposed news w old new y → y < length old → Recomposed news w old (set new y (composed_row news w y)) (y + 1)
one_more news w old new y r l = record {
  long = length-set new y (composed_row news w y) ∙ r.long;
  done = λ j h b. elim (cases_eq j y) [
    | inl e ↦ let at : j ≡ y = e in ap (λ k. get_or (set new y (composed_row news w y)) k []) at ∙ get_or-set_same new y (composed_row news w y) [] (omega (arith, l, r.long)) ∙ ap (composed_row news w) (sym at)
    | inr ne ↦ get_or-set_other new y j (composed_row news w y) [] ne ∙ r.done j (omega (arith, h, ne)) b
  ];
  left = λ j h. get_or-set_other new y j (composed_row news w y) [] (omega (arith, h)) ∙ r.left j (omega (arith, h));
}

pub one_same : (news : List LayerValue) (w : ℕ) (old new : List (List Pixel)) (y : ℕ) → Recomposed news w old new y → get_or old y [] ≡ composed_row news w y → Recomposed news w old new (y + 1)
one_same news w old new y r e = record {
  long = r.long;
  done = λ j h b. elim (cases_eq j y) [
    | inl k ↦ let at : j ≡ y = k in r.left j (omega (arith, at)) ∙ ap (λ i. get_or old i []) at ∙ e ∙ ap (composed_row news w) (sym at)
    | inr ne ↦ r.done j (omega (arith, h, ne)) b
  ];
  left = λ j h. r.left j (omega (arith, h));
}

pub row_of_composed : (layers : List LayerValue) (w h y : ℕ) → y < h → get_or (composed layers w h) y [] ≡ composed_row layers w y
unfolding composed
row_of_composed layers w h y l = get_or-map-range_with_len (composed_row layers w) 0 h y y [] l (omega arith)

pub length-composed : (layers : List LayerValue) (w h : ℕ) → length (composed layers w h) ≡ h
unfolding composed
length-composed layers w h = length-map-range_with_len (composed_row layers w) 0 h

pub all_rows : (news : List LayerValue) (w h : ℕ) (old new : List (List Pixel)) → length old ≡ h → Recomposed news w old new h → new ≡ composed news w h
unfolding composed
all_rows news w h old new l r =
    ext_get_or [] new (map (composed_row news w) (range_with_len 0 h)) (r.long ∙ l ∙ sym (length-map-range_with_len (composed_row news w) 0 h))
    (λ i b. let c : i < h = omega (arith, b, r.long, l) in r.done i c (omega (arith, c, l)) ∙ sym (get_or-map-range_with_len (composed_row news w) 0 h i i [] c (omega arith)))

-- a row that changes is composed anew, and another stays
one_by : (news : List LayerValue) (w y : ℕ) (first rows new : List (List Pixel)) (b : Bool) → (b ≡ false → get_or first y [] ≡ composed_row news w y) → length (get_or rows y []) ≡ w → y < length first → Recomposed news w first rows y →
    new ≡ cond b (set rows y (composed_row news (length (get_or rows y [])) y)) rows → Recomposed news w first new (y + 1)
one_by news w y first rows new true same long l r e =
    let at : set rows y (composed_row news w y) ≡ new = sym (e ∙ ap (λ n. set rows y (composed_row news n y)) long) in
    subst (λ (x : List (List Pixel)). Recomposed news w first x (y + 1)) at (one_more news w first rows y r l)
one_by news w y first rows new false same long l r e = subst (λ (x : List (List Pixel)). Recomposed news w first x (y + 1)) (sym e) (one_same news w first rows y r (same refl))

pub one_row : (olds news : List LayerValue) (w h y : ℕ) (first rows new : List (List Pixel)) → placed_in olds ≡ placed_in news → y < length first → first ≡ composed olds w h → Recomposed news w first rows y →
    new ≡ cond (is_changed olds news y) (set rows y (composed_row news (length (get_or rows y [])) y)) rows → Recomposed news w first new (y + 1)
one_row olds news w h y first rows new p l f r e =
    let inside : y < h = omega (arith, l, ap length f, length-composed olds w h) in
    let was : get_or first y [] ≡ composed_row olds w y = ap (λ xs. get_or xs y []) f ∙ row_of_composed olds w h y inside in
    let long : length (get_or rows y []) ≡ w = ap length (r.left y (omega arith) ∙ was) ∙ length-composed_row olds w y in
    one_by news w y first rows new (is_changed olds news y) (λ b. was ∙ same_composed olds news w y p b) long l r e

pub same_length : (b : Bool) (rows new : List (List Pixel)) (y : ℕ) (row : List Pixel) → new ≡ cond b (set rows y row) rows → length new ≡ length rows
same_length true rows new y row e = ap length e ∙ length-set rows y row
same_length false rows new y row e = ap length e

-- ---- How many rows change.
pub count_more : (p : ℕ → Bool) (n k r : ℕ) → k ≡ count_by p (range_with_len 0 n) → r ≡ cond (p n) 1 0 → k + r ≡ count_by p (range_with_len 0 (n + 1))
count_more p n k r h e =
    let g : ℕ → ℕ = λ x. cond (p x) 1 0 in
    let more = sum_by-map-range_with_len_more g (λ (i : ℕ). i) 0 n n (omega arith) in
    let all : sum_by g (range_with_len 0 (n + 1)) ≡ sum_by g (range_with_len 0 n) + g n =
    sym (ap (sum_by g) (map-id (range_with_len 0 (n + 1)))) ∙ more ∙ ap (λ xs. sum_by g xs + g n) (map-id (range_with_len 0 n)) in
    ap (λ i. i + r) h ∙ ap (λ i. sum_by g (range_with_len 0 n) + i) e ∙ sym all

pub one_at_most : (b : Bool) (r : ℕ) → r ≡ cond b 1 0 → r ≤ 1
one_at_most true r e = omega (arith, e)
one_at_most false r e = omega (arith, e)

-- ---- Behind the last layer nothing changes.
nothing_more : (olds : List LayerValue) (y : ℕ) → is_changed olds [] y ≡ false
nothing_more [] y = refl
nothing_more (o ∷ olds) y = refl

pub past_end : (olds news : List LayerValue) (y k : ℕ) → min (length olds) (length news) ≤ k → is_changed (drop k olds) (drop k news) y ≡ false
past_end [] news y zero h = refl
past_end [] news y (suc k) h = refl
past_end (o ∷ olds) [] y zero h = refl
past_end (o ∷ olds) [] y (suc k) h = nothing_more (drop k olds) y
past_end (o ∷ olds) (n ∷ news) y zero h = absurd (omega (arith, h))
past_end (o ∷ olds) (n ∷ news) y (suc k) h = past_end olds news y k (omega (arith, h))
