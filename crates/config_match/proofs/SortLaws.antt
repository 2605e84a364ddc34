-- A sorted list of keys is the only one: what std's sort leaves is what the definition says.
use Rattle.std.proofs.Common.{◌≡◌, ℕ, zero, suc, ◌+◌, ◌<◌, Bool, true, false, List, [], ◌∷◌, length, get_or, refl, sym, ap, ◌∙◌, subst, arith, cond, ◌⊎◌, inl, inr, ⊎_elim, Ordering}
use Rattle.std.specs.List.{sum_by}
use Rattle.std.specs.List.Sorted.{IsPermutation, IsSorted}
use Rattle.std.specs.Cmp.{IsStrictWeakOrder}
use Rattle.std.specs.Ordering.{nat_cmp, is_lt, is_eq, ordering_reverse}
use Rattle.std.specs.declared.cmp.Ordering.TheVariants.{Less, Equal, Greater}
use Rattle.std.specs.Cmp.Lexicographic.{slice_cmp}
use Rattle.std.specs.Str.{bytes_eq}
use Rattle.std.proofs.lemmas.Bool.{false≢true}
use Rattle.std.proofs.lemmas.Cmp.{nat_list_cmp_total}
use Rattle.std.proofs.lemmas.Slice.Eq.{bytes_eq-Decides}
use Rattle.std.proofs.lemmas.Map.Text.{is_eq-slice_cmp}
use Rattle.std.proofs.lemmas.List.Sorted.{sum_by-IsPermutation, sorted_far, ranks_by, IsPermutation-refl, IsPermutation-trans, IsPermutation-cons, IsPermutation-middle}
use Rattle.std.proofs.lemmas.List.Sums.{sum_by-cons}
use Rattle.config_match.specs.Keys.{comes_before, placed, rising}

-- 1 for the key itself
one : List ℕ → List ℕ → ℕ
one k x = cond (bytes_eq x k) 1 0

-- how often a key stands in a list
times : List ℕ → List (List ℕ) → ℕ
times k xs = sum_by (one k) xs

times_cons : (k x : List ℕ) (xs : List (List ℕ)) → times k (x ∷ xs) ≡ one k x + times k xs
unfolding times
times_cons k x xs = sum_by-cons (one k) x xs

times_nil : (k : List ℕ) → times k [] ≡ 0
unfolding times
times_nil k = refl

one_self : (k : List ℕ) → one k k ≡ 1
unfolding one
one_self k = ap (λ (b : Bool). cond b 1 0) ((bytes_eq-Decides k k).1 refl)

-- a key that counts is the key
one_same : (k x : List ℕ) → 0 < one k x → x ≡ k
unfolding one
one_same k x l = go (bytes_eq x k) refl l
  where
    go : (b : Bool) → bytes_eq x k ≡ b → 0 < cond b 1 0 → x ≡ k
    go true e h = (bytes_eq-Decides x k).0 e
    go false e h = absurd (omega arith)

-- what stands in a list is its first key or stands behind it
first_or_later : (k x : List ℕ) (xs : List (List ℕ)) → 0 < times k (x ∷ xs) → (x ≡ k) ⊎ (0 < times k xs)
first_or_later k x xs l = go (one k x) refl
  where
    go : (n : ℕ) → one k x ≡ n → (x ≡ k) ⊎ (0 < times k xs)
    go zero e = let t : times k (x ∷ xs) ≡ one k x + times k xs = times_cons k x xs in inr (omega arith)
    go (suc n) e = inl (one_same k x (omega arith))

order : IsStrictWeakOrder comes_before
order = ranks_by nat_list_cmp_total (λ (x : List ℕ). x)

not_itself : (a : List ℕ) → comes_before a a ≡ false
not_itself a = go (comes_before a a) refl
  where
    go : (b : Bool) → comes_before a a ≡ b → b ≡ false
    go true e = sym e ∙ order.one_way a a e
    go false e = refl

-- two keys of which neither comes before the other are one
neither : (a b : List ℕ) → comes_before a b ≡ false → comes_before b a ≡ false → a ≡ b
neither a b p q = go (slice_cmp nat_cmp a b) refl
  where
    go : (r : Ordering) → slice_cmp nat_cmp a b ≡ r → a ≡ b
    go Less e = absurd (false≢true (sym p ∙ ap is_lt e))
    go Equal e = (bytes_eq-Decides a b).0 (sym (is_eq-slice_cmp a b) ∙ ap is_eq e)
    go Greater e = absurd (false≢true (sym q ∙ ap is_lt (nat_list_cmp_total.antisymm b a ∙ ap ordering_reverse e)))

-- no element of a list comes before an earlier one
Rises : List (List ℕ) → Type 0
Rises [] = Unit {0}
Rises (x ∷ xs) = ((y : List ℕ) → 0 < times y xs → comes_before y x ≡ false) × Rises xs

-- among rising lists, the counts decide
unique_first : (x y : List ℕ) (xs ys : List (List ℕ)) → ((z : List ℕ) → 0 < times z xs → comes_before z x ≡ false) → ((k : List ℕ) → times k (x ∷ xs) ≡ times k (y ∷ ys)) → comes_before y x ≡ false
unique_first x y xs ys r h =
    let t : times y (y ∷ ys) ≡ one y y + times y ys = times_cons y y ys in
    let o : one y y ≡ 1 = one_self y in
    let e : times y (x ∷ xs) ≡ times y (y ∷ ys) = h y in
    ⊎_elim (λ (s : x ≡ y). ap (λ (z : List ℕ). comes_before y z) s ∙ not_itself y) (λ (l : 0 < times y xs). r y l) (first_or_later y x xs (omega arith))

unique : (xs ys : List (List ℕ)) → Rises xs → Rises ys → ((k : List ℕ) → times k xs ≡ times k ys) → xs ≡ ys
unfolding Rises
unique [] [] r s h = refl
unique [] (y ∷ ys) r s h =
    let t : times y (y ∷ ys) ≡ one y y + times y ys = times_cons y y ys in
    let o : one y y ≡ 1 = one_self y in
    let n : times y [] ≡ 0 = times_nil y in
    let e : times y [] ≡ times y (y ∷ ys) = h y in
    absurd (omega arith)
unique (x ∷ xs) [] r s h =
    let t : times x (x ∷ xs) ≡ one x x + times x xs = times_cons x x xs in
    let o : one x x ≡ 1 = one_self x in
    let n : times x [] ≡ 0 = times_nil x in
    let e : times x (x ∷ xs) ≡ times x [] = h x in
    absurd (omega arith)
unique (x ∷ xs) (y ∷ ys) r s h =
    let same : x ≡ y = neither x y (unique_first y x ys xs s.0 (λ k. sym (h k))) (unique_first x y xs ys r.0 h) in
    joined same (unique xs ys r.1 s.1 (λ k. tails k same (h k)))
  where
    joined : {a b : List ℕ} {p q : List (List ℕ)} → a ≡ b → p ≡ q → a ∷ p ≡ b ∷ q
    joined e f = cc

    tails : (k : List ℕ) → x ≡ y → times k (x ∷ xs) ≡ times k (y ∷ ys) → times k xs ≡ times k ys
    tails k e f =
        let a : times k (x ∷ xs) ≡ one k x + times k xs = times_cons k x xs in
        let b : times k (y ∷ ys) ≡ one k y + times k ys = times_cons k y ys in
        let c : one k x ≡ one k y = ap (one k) e in
        omega arith

-- what `placed` and `rising` keep
times_placed : (y k : List ℕ) (xs : List (List ℕ)) → times y (placed k xs) ≡ one y k + times y xs
times_placed y k [] = times_cons y k []
times_placed y k (x ∷ xs) = go (comes_before k x) (times_placed y k xs)
  where
    go : (b : Bool) → times y (placed k xs) ≡ one y k + times y xs → times y (cond b (k ∷ x ∷ xs) (x ∷ placed k xs)) ≡ one y k + times y (x ∷ xs)
    go true e = times_cons y k (x ∷ xs)
    go false e =
        let a : times y (x ∷ placed k xs) ≡ one y x + times y (placed k xs) = times_cons y x (placed k xs) in
        let b : times y (x ∷ xs) ≡ one y x + times y xs = times_cons y x xs in
        omega arith

times_rising : (y : List ℕ) (xs : List (List ℕ)) → times y (rising xs) ≡ times y xs
times_rising y [] = refl
times_rising y (x ∷ xs) = times_placed y x (rising xs) ∙ ap (λ (n : ℕ). one y x + n) (times_rising y xs) ∙ sym (times_cons y x xs)

rises_placed : (k : List ℕ) (xs : List (List ℕ)) → Rises xs → Rises (placed k xs)
unfolding Rises
rises_placed k [] r = ((λ y l. let n : times y [] ≡ 0 = times_nil y in absurd (omega arith)), tt)
rises_placed k (x ∷ xs) r = go (comes_before k x) refl (rises_placed k xs r.1)
  where
    go : (b : Bool) → comes_before k x ≡ b → Rises (placed k xs) → Rises (cond b (k ∷ x ∷ xs) (x ∷ placed k xs))
    go true e h =
        let back : comes_before x k ≡ false = order.one_way k x e in
        ((λ y l. ⊎_elim (λ (s : x ≡ y). ap (λ (z : List ℕ). comes_before z k) (sym s) ∙ back) (λ (m : 0 < times y xs). order.chain y x k (r.0 y m) back) (first_or_later y x xs l)), r)
    go false e h =
        ((λ y l. ⊎_elim (λ (s : k ≡ y). ap (λ (z : List ℕ). comes_before z x) (sym s) ∙ e) (λ (m : 0 < times y xs). r.0 y m) (first_or_later y k xs (subst (λ (n : ℕ). 0 < n) (times_placed y k xs ∙ sym (times_cons y k xs)) l))), h)

rises_rising : (xs : List (List ℕ)) → Rises (rising xs)
unfolding Rises
rises_rising [] = tt
rises_rising (x ∷ xs) = rises_placed x (rising xs) (rises_rising xs)

-- a key that counts stands at a place
place_of : (y : List ℕ) (xs : List (List ℕ)) → 0 < times y xs → (k : ℕ) × (k < length xs) × (get_or xs k [] ≡ y)
place_of y [] l = let n : times y [] ≡ 0 = times_nil y in absurd (omega arith)
place_of y (x ∷ xs) l = go (first_or_later y x xs l) (place_of y xs)
  where
    go : (x ≡ y) ⊎ (0 < times y xs) → (0 < times y xs → (k : ℕ) × (k < length xs) × (get_or xs k [] ≡ y)) → (k : ℕ) × (k < length (x ∷ xs)) × (get_or (x ∷ xs) k [] ≡ y)
    go (inl e) more = (0, (omega arith), e)
    go (inr m) more = let r = more m in let within : r.0 < length xs = r.1 in (suc r.0, (omega arith), r.2)

rises_sorted : (xs : List (List ℕ)) → IsSorted (slice_cmp nat_cmp) xs → Rises xs
unfolding Rises
rises_sorted [] up = tt
rises_sorted (x ∷ xs) up = (
  (λ y l. let r = place_of y xs l in let within : r.0 < length xs = r.1 in
      sym (ap (λ (z : List ℕ). comes_before z x) r.2) ∙ sorted_far comes_before order (x ∷ xs) up 0 (suc r.0) [] (omega arith) (omega arith)),
  rises_sorted xs (λ k d low high. let e : suc k + 1 ≡ suc (k + 1) = omega arith in sym (ap (λ (i : ℕ). comes_before (get_or (x ∷ xs) i d) (get_or (x ∷ xs) (suc k) d)) e) ∙ up (suc k) d (omega arith) (omega arith)),
)

-- a sorted permutation is the rising list
pub sorted_is : (xs ys : List (List ℕ)) → IsPermutation xs ys → IsSorted (slice_cmp nat_cmp) ys → ys ≡ rising xs
unfolding times
sorted_is xs ys p up = unique ys (rising xs) (rises_sorted ys up) (rises_rising xs) (λ k. sum_by-IsPermutation (one k) xs ys p ∙ sym (times_rising k xs))

-- the rising list has the same keys, in order
moves_placed : (k : List ℕ) (xs : List (List ℕ)) → IsPermutation (k ∷ xs) (placed k xs)
moves_placed k [] = IsPermutation-refl (k ∷ [])
moves_placed k (x ∷ xs) = go (comes_before k x) (moves_placed k xs)
  where
    go : (b : Bool) → IsPermutation (k ∷ xs) (placed k xs) → IsPermutation (k ∷ x ∷ xs) (cond b (k ∷ x ∷ xs) (x ∷ placed k xs))
    go true p = IsPermutation-refl (k ∷ x ∷ xs)
    go false p = IsPermutation-trans (k ∷ x ∷ xs) (x ∷ k ∷ xs) (x ∷ placed k xs) (IsPermutation-middle (k ∷ []) x xs) (IsPermutation-cons x (k ∷ xs) (placed k xs) p)

pub moves_rising : (xs : List (List ℕ)) → IsPermutation xs (rising xs)
moves_rising [] = IsPermutation-refl []
moves_rising (x ∷ xs) = IsPermutation-trans (x ∷ xs) (x ∷ rising xs) (placed x (rising xs)) (IsPermutation-cons x xs (rising xs) (moves_rising xs)) (moves_placed x (rising xs))

sorted_rises : (xs : List (List ℕ)) → Rises xs → IsSorted (slice_cmp nat_cmp) xs
unfolding Rises
sorted_rises [] r k d low high = absurd (omega arith)
sorted_rises (x ∷ []) r k d low high = absurd (omega arith)
sorted_rises (x ∷ y ∷ ys) r zero d low high =
    let t : times y (y ∷ ys) ≡ one y y + times y ys = times_cons y y ys in
    let o : one y y ≡ 1 = one_self y in
    r.0 y (omega arith)
sorted_rises (x ∷ y ∷ ys) r (suc k) d low high =
    let e : suc k + 1 ≡ suc (k + 1) = omega arith in
    ap (λ (i : ℕ). comes_before (get_or (x ∷ y ∷ ys) i d) (get_or (x ∷ y ∷ ys) (suc k) d)) e ∙ sorted_rises (y ∷ ys) r.1 k d (omega arith) (omega arith)

pub rising_is_sorted : (xs : List (List ℕ)) → IsSorted (slice_cmp nat_cmp) (rising xs)
rising_is_sorted xs = sorted_rises (rising xs) (rises_rising xs)
