-- How many elements of a list pass a test, where one changes or comes.
use Rattle.std.proofs.Common.{◌≡◌, ◌≢◌, ℕ, zero, suc, ◌+◌, ◌≤◌, Bool, true, List, [], ◌∷◌, ◌++◌, set, sym, ap, ◌∙◌, arith, cond}
use Rattle.std.specs.Prelude.{count_by}
use Rattle.std.proofs.lemmas.List.Sums.{sum_by-cons, sum_by_push}
use mathlib.Core.Option.{some, some-injective, some-ne-none}
use lib.ListN.{get_elem?}

-- what one element adds to the count
abbrev pub one_if : Bool → ℕ
one_if b = cond b 1 0

module _ {A : Type 0} where
  pub count_by-cons : (p : A → Bool) (x : A) (xs : List A) → count_by p (x ∷ xs) ≡ one_if (p x) + count_by p xs
  count_by-cons p x xs = sum_by-cons (λ y. cond (p y) 1 0) x xs

  pub count_by_push : (p : A → Bool) (xs : List A) (x : A) → count_by p (xs ++ x ∷ []) ≡ count_by p xs + one_if (p x)
  count_by_push p xs x = sum_by_push (λ y. cond (p y) 1 0) xs x

  pub count_by-set : (p : A → Bool) (l : List A) (i : ℕ) (v w : A) → get_elem? l i ≡ some v → count_by p (set l i w) + one_if (p v) ≡ count_by p l + one_if (p w)
  count_by-set p [] i v w e = absurd (some-ne-none v (sym e))
  count_by-set p (x ∷ xs) zero v w e =
      let same : one_if (p x) ≡ one_if (p v) = ap (λ (y : A). one_if (p y)) (some-injective x v e) in
      omega (arith, same, count_by-cons p w xs, count_by-cons p x xs)
  count_by-set p (x ∷ xs) (suc i) v w e =
      let rest = count_by-set p xs i v w e in
      omega (arith, rest, count_by-cons p x (set xs i w), count_by-cons p x xs)

  -- where one passes, the count is at least 1
  pub one_passes : (p : A → Bool) (l : List A) (i : ℕ) (v : A) → get_elem? l i ≡ some v → p v ≡ true → 1 ≤ count_by p l
  one_passes p [] i v e a = absurd (some-ne-none v (sym e))
  one_passes p (x ∷ xs) zero v e a =
      let here : one_if (p x) ≡ 1 = ap (λ (y : A). one_if (p y)) (some-injective x v e) ∙ ap one_if a in
      omega (arith, here, count_by-cons p x xs)
  one_passes p (x ∷ xs) (suc i) v e a =
      let there = one_passes p xs i v e a in
      omega (arith, there, count_by-cons p x xs)

  -- where two pass, it is at least 2
  pub two_pass : (p : A → Bool) (l : List A) (i j : ℕ) (v w : A) → get_elem? l i ≡ some v → get_elem? l j ≡ some w → p v ≡ true → p w ≡ true → i ≢ j → 2 ≤ count_by p l
  two_pass p [] i j v w e f a b apart = absurd (some-ne-none v (sym e))
  two_pass p (x ∷ xs) zero zero v w e f a b apart = absurd (apart (omega arith))
  two_pass p (x ∷ xs) zero (suc j) v w e f a b apart =
      let here : one_if (p x) ≡ 1 = ap (λ (y : A). one_if (p y)) (some-injective x v e) ∙ ap one_if a in
      let there = one_passes p xs j w f b in
      omega (arith, here, there, count_by-cons p x xs)
  two_pass p (x ∷ xs) (suc i) zero v w e f a b apart =
      let here : one_if (p x) ≡ 1 = ap (λ (y : A). one_if (p y)) (some-injective x w f) ∙ ap one_if b in
      let there = one_passes p xs i v e a in
      omega (arith, here, there, count_by-cons p x xs)
  two_pass p (x ∷ xs) (suc i) (suc j) v w e f a b apart =
      let there = two_pass p xs i j v w e f a b (λ s. apart (ap suc s)) in
      omega (arith, there, count_by-cons p x xs)
