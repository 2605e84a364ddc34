-- Bytes of pixels.
use Rattle.std.proofs.Common.{◌≡◌, ℕ, ◌+◌, ◌<◌, ◌≤◌, nat_le, ◌==◌, ◌&&◌, Bool, true, false, List, [], ◌∷◌, ◌-◌, length, get_or, take, drop, refl, sym, ap, ◌∙◌, zero, suc, arith, Option, None, fold}
use Rattle.std.specs.List.{range_with_len}
use Rattle.std.proofs.lemmas.Bool.Decides.{Decides-eqb, nat_tests}
use Rattle.driver_judge.specs.declared.differences.PixelDifference.{PixelDifference}
use Rattle.driver_judge.specs.declared.pixels.Grid.{Grid}
use Rattle.driver_judge.specs.Pixels.{are_equal, cell, cell_steps, counted, counted_row, four, pixel_difference}

pub four_are : (bs : List ℕ) → get_or bs 0 0 ∷ get_or bs 1 0 ∷ get_or bs 2 0 ∷ get_or bs 3 0 ∷ [] ≡ four bs
four_are [] = refl
four_are (a ∷ []) = refl
four_are (a ∷ b ∷ []) = refl
four_are (a ∷ b ∷ c ∷ []) = refl
four_are (a ∷ b ∷ c ∷ d ∷ rest) = refl

pub none_past : (bs : List ℕ) (n : ℕ) → length bs ≤ n → [] ≡ drop n bs
none_past [] zero h = refl
none_past [] (suc n) h = refl
none_past (b ∷ bs) zero h = absurd (omega arith)
none_past (b ∷ bs) (suc n) h = none_past bs n (omega arith)

pub all_of : (bs : List ℕ) (n : ℕ) → length bs ≤ n → bs ≡ take n bs
all_of [] zero h = refl
all_of [] (suc n) h = refl
all_of (b ∷ bs) zero h = absurd (omega arith)
all_of (b ∷ bs) (suc n) h = ap (λ xs. b ∷ xs) (all_of bs n (omega arith))

equal_self : (bs : List ℕ) → are_equal bs bs ≡ true
equal_self [] = refl
equal_self (b ∷ bs) = rw (equal_self bs) (grind arith)

no_steps : (g : Grid) (x : ℕ) (bs : List ℕ) → cell_steps g x bs bs ≡ 0
unfolding cell_steps
no_steps g x bs = rw (equal_self bs) refl

zero_fits : (delta : ℕ) → nat_le 0 delta ≡ true
zero_fits delta = grind (arith, nat_tests)

same_cell : (delta : ℕ) (g : Grid) (bs : List ℕ) (y : ℕ) (d : Option PixelDifference) (x : ℕ) → counted delta g bs bs y d x ≡ d
unfolding counted
same_cell delta g bs y d x = rw (no_steps g x (cell g bs x y)) (rw (zero_fits delta) refl)

same_cells : (delta : ℕ) (g : Grid) (bs : List ℕ) (y : ℕ) (d : Option PixelDifference) (xs : List ℕ) → fold (counted delta g bs bs y) d xs ≡ d
same_cells delta g bs y d [] = refl
same_cells delta g bs y d (x ∷ xs) = ap (λ e. fold (counted delta g bs bs y) e xs) (same_cell delta g bs y d x) ∙ same_cells delta g bs y d xs

same_row : (delta : ℕ) (g : Grid) (bs : List ℕ) (d : Option PixelDifference) (y : ℕ) → counted_row delta g bs bs d y ≡ d
unfolding counted_row
same_row delta g bs d y = same_cells delta g bs y d (range_with_len 0 (g.columns + 1))

same_rows : (delta : ℕ) (g : Grid) (bs : List ℕ) (d : Option PixelDifference) (ys : List ℕ) → fold (counted_row delta g bs bs) d ys ≡ d
same_rows delta g bs d [] = refl
same_rows delta g bs d (y ∷ ys) = ap (λ e. fold (counted_row delta g bs bs) e ys) (same_row delta g bs d y) ∙ same_rows delta g bs d ys

-- equal bytes agree
pub same_agree : (delta : ℕ) (g : Grid) (ours theirs : List ℕ) → ours ≡ theirs → None ≡ pixel_difference delta g ours theirs
unfolding pixel_difference
same_agree delta g ours theirs e = rw (← e) (sym (same_rows delta g ours None (range_with_len 0 g.rows)))

-- one column more, and one row more
pub next_column : (delta : ℕ) (g : Grid) (ours theirs : List ℕ) (y : ℕ) (d : Option PixelDifference) (x n : ℕ) → x < n → fold (counted delta g ours theirs y) (counted delta g ours theirs y d x) (range_with_len (x + 1) (n - (x + 1))) ≡ fold (counted delta g ours theirs y) d (range_with_len x (n - x))
next_column delta g ours theirs y d x n h = let e : n - x ≡ suc (n - (x + 1)) = omega arith in rw e refl

pub next_row : (delta : ℕ) (g : Grid) (ours theirs : List ℕ) (d : Option PixelDifference) (y n : ℕ) → y < n → fold (counted_row delta g ours theirs) (counted_row delta g ours theirs d y) (range_with_len (y + 1) (n - (y + 1))) ≡ fold (counted_row delta g ours theirs) d (range_with_len y (n - y))
next_row delta g ours theirs d y n h = let e : n - y ≡ suc (n - (y + 1)) = omega arith in rw e refl

both : (a b : Bool) → (a && b) ≡ true → (a ≡ true) × (b ≡ true)
both true b h = (refl, h)
both false b h = cc

equal_is : (us bs : List ℕ) → are_equal us bs ≡ true → us ≡ bs
equal_is [] [] h = refl
equal_is [] (b ∷ bs) h = cc
equal_is (a ∷ us) [] h = cc
equal_is (a ∷ us) (b ∷ bs) h = let p : ((a == b) ≡ true) × (are_equal us bs ≡ true) = both (a == b) (are_equal us bs) h in let e : a ≡ b = (Decides-eqb a b).0 p.0 in let f : us ≡ bs = equal_is us bs p.1 in cc

pub equal_agree : (delta : ℕ) (g : Grid) (ours theirs : List ℕ) → are_equal ours theirs ≡ true → None ≡ pixel_difference delta g ours theirs
equal_agree delta g ours theirs h = same_agree delta g ours theirs (equal_is ours theirs h)
