-- What is told of one row more.
use Rattle.std.proofs.Common.{arith, ◌≡◌, ◌<◌, ℕ, zero, suc, true, false, cond, List, [], ◌∷◌, Bool, length, map, take, None, Some, slice_index_or, slice_set, sym, ap, subst, ◌∙◌}
use Rattle.std.proofs.Math.ListN.{get_or-map}
use Rattle.std.proofs.lemmas.List.{length-map}
use Rattle.refusal_rows.specs.Rows.{Row, held, row_of}

-- the row that is read holds
pub held_on : {E : Type 0} (n : ℕ) (rs : List (Row E)) (i : ℕ) (r : Row E) → i < n → i < length rs → r ≡ slice_index_or rs i r → r.0 ≡ true → slice_set (held n (take i rs)) i (Some r.1) ≡ held n (take (suc i) rs)
held_on zero rs i r a b e t = absurd (omega (arith, a))
held_on (suc n) [] i r a b e t = absurd (omega (arith, b))
held_on {E = E} (suc n) (x ∷ rs) zero r a b e t = ap (λ y. cond y (Some r.1) None ∷ held n []) (sym t) ∙ ap (λ (y : Row E). cond y.0 (Some y.1) None ∷ held n []) e
held_on (suc n) (x ∷ rs) (suc i) r a b e t = ap (λ ys. cond x.0 (Some x.1) None ∷ ys) (held_on n rs i r (omega (arith, a)) (omega (arith, b)) e t)

-- it doesn't hold
pub held_off : {E : Type 0} (n : ℕ) (rs : List (Row E)) (i : ℕ) (r : Row E) → i < n → i < length rs → r ≡ slice_index_or rs i r → r.0 ≡ false → held n (take i rs) ≡ held n (take (suc i) rs)
held_off zero rs i r a b e t = absurd (omega (arith, a))
held_off (suc n) [] i r a b e t = absurd (omega (arith, b))
held_off {E = E} (suc n) (x ∷ rs) zero r a b e t = ap (λ y. cond y (Some r.1) None ∷ held n []) (sym t) ∙ ap (λ (y : Row E). cond y.0 (Some y.1) None ∷ held n []) e
held_off (suc n) (x ∷ rs) (suc i) r a b e t = ap (λ ys. cond x.0 (Some x.1) None ∷ ys) (held_off n rs i r (omega (arith, a)) (omega (arith, b)) e t)

-- the same of rules whose conditions are tested
pub judged_on : {C E : Type 0} (f : C → Bool) (n : ℕ) (rs : List (C × E)) (i : ℕ) (r : C × E) → i < n → i < length rs → r ≡ slice_index_or rs i r → f r.0 ≡ true → slice_set (held n (take i (map (row_of f) rs))) i (Some r.1) ≡ held n (take (suc i) (map (row_of f) rs))
judged_on f n rs i r a b e t = held_on n (map (row_of f) rs) i (row_of f r) a (subst (λ k. i < k) (sym (length-map rs (row_of f))) b) (ap (row_of f) e ∙ sym (get_or-map (row_of f) rs i r)) t

pub judged_off : {C E : Type 0} (f : C → Bool) (n : ℕ) (rs : List (C × E)) (i : ℕ) (r : C × E) → i < n → i < length rs → r ≡ slice_index_or rs i r → f r.0 ≡ false → held n (take i (map (row_of f) rs)) ≡ held n (take (suc i) (map (row_of f) rs))
judged_off f n rs i r a b e t = held_off n (map (row_of f) rs) i (row_of f r) a (subst (λ k. i < k) (sym (length-map rs (row_of f))) b) (ap (row_of f) e ∙ sym (get_or-map (row_of f) rs i r)) t
