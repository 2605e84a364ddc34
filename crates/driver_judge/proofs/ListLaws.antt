-- Lists.
use Rattle.std.proofs.Common.{◌≡◌, ℕ, ◌≤◌, Bool, true, false, List, [], ◌∷◌, length, drop, set, refl, sym, ap, zero, suc, arith, Option, None}
use Rattle.std.specs.Prelude.{if◌then◌else◌}

-- nothing is written past the end
pub set_past : {A : Type 0} (xs : List A) (i : ℕ) (v : A) → length xs ≤ i → set xs i v ≡ xs
set_past [] i v h = refl
set_past (x ∷ xs) zero v h = absurd (omega arith)
set_past (x ∷ xs) (suc i) v h = ap (λ ys. x ∷ ys) (set_past xs i v (omega arith))

-- nothing is left behind the end, and else the next item and what is behind it
pub drop_past : {A : Type 0} (xs : List A) (k : ℕ) → length xs ≤ k → drop k xs ≡ []
drop_past [] zero h = refl
drop_past [] (suc k) h = refl
drop_past (x ∷ xs) zero h = absurd (omega arith)
drop_past (x ∷ xs) (suc k) h = drop_past xs k (omega arith)

-- where there is nothing, no test finds anything
pub none_by_either : {A : Type 0} (b : Bool) (o : Option A) → o ≡ None → None ≡ (if b then o else None)
none_by_either true o h = sym h
none_by_either false o h = refl
