-- Entries by keys: what stands for a number behind one more entry, and behind one less.
use Rattle.std.proofs.Common.{◌≡◌, ℕ, ◌==◌, ◌&&◌, ℤ, Bool, true, false, cond, [], ◌∷◌, get_or, refl, sym, ap, subst, ◌∙◌, is_some, position, Decides, IsPermutation, if◌then◌else◌, Option, None, Some}
use Rattle.std.specs.Cmp.{IsEquivalence, decided}
use Rattle.std.specs.List.{AllByRecursion, IsDistinct, swap_remove}
use Rattle.std.specs.Map.{keys_of}
use Rattle.std.specs.Ordering.{int_eq}
use Rattle.std.proofs.lemmas.Bool.Decides.{Decides-eqb, Decides-int_eq}
use Rattle.std.proofs.lemmas.List.{get_or-map, get_or_default}
use Rattle.std.proofs.lemmas.List.Quantifiers.{position-Some}
use Rattle.std.proofs.lemmas.List.Sorted.{IsPermutation-map, IsPermutation-swap_remove}
use Rattle.std.proofs.lemmas.Map.Entries.{lookup_head, lookup_tail}
use Rattle.std.proofs.lemmas.Map.Keys.{IsDistinct-IsPermutation}
use Rattle.indexmap.proofs.MapLemmas.{Found-position, lookup_permutation, some_index, swap_remove_entry-found, swap_remove_entry-missing}
use Rattle.driver_judge.specs.Maps.{Entries, Key, found, is_key, with_entry, without_entry}

-- ---- Keys are the same exactly where they are equal.
all_three : (a b c : Bool) → (a && b && c) ≡ true → (a ≡ true) × (b ≡ true) × (c ≡ true)
all_three true true true h = (refl, refl, refl)
all_three true true false h = cc
all_three true false true h = cc
all_three true false false h = cc
all_three false true true h = cc
all_three false true false h = cc
all_three false false true h = cc
all_three false false false h = cc

pub same_key : (k l : Key) → is_key k l ≡ true → k ≡ l
same_key k l h =
    let each = all_three (k.0 == l.0) (k.1 == l.1) (int_eq k.2 l.2) h in
    let first : k.0 ≡ l.0 = (Decides-eqb k.0 l.0).0 each.0 in
    let second : k.1 ≡ l.1 = (Decides-eqb k.1 l.1).0 each.1 in
    let third : k.2 ≡ l.2 = (Decides-int_eq k.2 l.2).0 each.2 in
    λ i. (first i, second i, third i)

pub key_self : (k : Key) → is_key k k ≡ true
key_self k =
    let first : (k.0 == k.0) ≡ true = (Decides-eqb k.0 k.0).1 refl in
    let second : (k.1 == k.1) ≡ true = (Decides-eqb k.1 k.1).1 refl in
    let third : int_eq k.2 k.2 ≡ true = (Decides-int_eq k.2 k.2).1 refl in
    λ i. first i && second i && third i

decides_key : (k l : Key) → Decides (is_key k l) (k ≡ l)
decides_key k l = (same_key k l, λ e. subst (λ x. is_key k x ≡ true) e (key_self k))

keys_equal : IsEquivalence is_key
keys_equal = decided is_key decides_key

-- ---- One more.
put_by : (k : Key) (v : ℤ) (e : Key × ℤ) (es : Entries) (b : Bool) → is_key k e.0 ≡ b → found k (with_entry k v es) ≡ Some v → found k (if b then (e.0, v) ∷ es else e ∷ with_entry k v es) ≡ Some v
put_by k v e es true h rest = lookup_head (is_key k) (e.0, v) es h
put_by k v e es false h rest = lookup_tail (is_key k) e (with_entry k v es) h ∙ rest

pub found_put : (k : Key) (v : ℤ) (es : Entries) → found k (with_entry k v es) ≡ Some v
found_put k v [] = lookup_head (is_key k) (k, v) [] (key_self k)
found_put k v (e ∷ es) = put_by k v e es (is_key k e.0) refl (found_put k v es)

other_by : (k l : Key) (v : ℤ) (e : Key × ℤ) (es : Entries) (b : Bool) → is_key k l ≡ false → is_key l e.0 ≡ b → found k (with_entry l v es) ≡ found k es → found k (if b then (e.0, v) ∷ es else e ∷ with_entry l v es) ≡ found k (e ∷ es)
other_by k l v e es true n h rest =
    let m : is_key k e.0 ≡ false = ap (is_key k) (sym (same_key l e.0 h)) ∙ n in
    lookup_tail (is_key k) (e.0, v) es m ∙ sym (lookup_tail (is_key k) e es m)
other_by k l v e es false n h rest = ap (cond (is_key k e.0) (Some e.1)) rest

pub found_put_other : (k l : Key) (v : ℤ) (es : Entries) → is_key k l ≡ false → found k (with_entry l v es) ≡ found k es
found_put_other k l v [] n = lookup_tail (is_key k) (l, v) [] n
found_put_other k l v (e ∷ es) n = other_by k l v e es (is_key l e.0) n refl (found_put_other k l v es n)

-- ---- No key stands twice.
abbrev pub IsApart : Entries → Type 0
IsApart es = IsDistinct is_key (keys_of es)

apart_from : (x k : Key) (v : ℤ) (e : Key × ℤ) (es : Entries) (b : Bool) → is_key k e.0 ≡ b → AllByRecursion (λ y. is_key x y ≡ false) (keys_of (e ∷ es)) → AllByRecursion (λ y. is_key x y ≡ false) (keys_of (with_entry k v es)) → AllByRecursion (λ y. is_key x y ≡ false) (keys_of (if b then (e.0, v) ∷ es else e ∷ with_entry k v es))
apart_from x k v e es true h all rest = all
apart_from x k v e es false h all rest = (all.0, rest)

others_put : (x k : Key) (v : ℤ) (es : Entries) → is_key x k ≡ false → AllByRecursion (λ y. is_key x y ≡ false) (keys_of es) → AllByRecursion (λ y. is_key x y ≡ false) (keys_of (with_entry k v es))
others_put x k v [] n all = (n, tt)
others_put x k v (e ∷ es) n all = apart_from x k v e es (is_key k e.0) refl all (others_put x k v es n all.1)

apart_by : (k : Key) (v : ℤ) (e : Key × ℤ) (es : Entries) (b : Bool) → is_key k e.0 ≡ b → IsApart (e ∷ es) → IsApart (with_entry k v es) → IsApart (if b then (e.0, v) ∷ es else e ∷ with_entry k v es)
unfolding IsDistinct
apart_by k v e es true h d rest = d
apart_by k v e es false h d rest = (others_put e.0 k v es (keys_equal.symm e.0 k ∙ h) d.0, rest)

pub apart_put : (k : Key) (v : ℤ) (es : Entries) → IsApart es → IsApart (with_entry k v es)
unfolding IsDistinct
apart_put k v [] d = (tt, tt)
apart_put k v (e ∷ es) d = apart_by k v e es (is_key k e.0) refl d (apart_put k v es d.1)

-- ---- One less.
none_of_false : (o : Option ℤ) → is_some o ≡ false → o ≡ None
none_of_false None h = refl
none_of_false (Some v) h = cc

none_apart : (k : Key) (es : Entries) → AllByRecursion (λ y. is_key k y ≡ false) (keys_of es) → found k es ≡ None
none_apart k [] h = refl
none_apart k (e ∷ es) h = lookup_tail (is_key k) e es h.0 ∙ none_apart k es h.1

-- what is left behind an entry that is taken out
record Taken (l : Key) (es left : Entries) : Type 0 where
  apart : IsApart left
  gone : found l left ≡ None
  others : (k : Key) → is_key k l ≡ false → found k left ≡ found k es

unfolding_apart : (e : Key × ℤ) (es : Entries) → IsApart (e ∷ es) → AllByRecursion (λ y. is_key e.0 y ≡ false) (keys_of es) × IsApart es
unfolding IsDistinct
unfolding_apart e es d = d

taken_first : (e : Key × ℤ) (es left : Entries) → IsPermutation es (e ∷ left) → IsApart es → Taken e.0 es left
taken_first e es left moved d =
    let again : IsApart (e ∷ left) = IsDistinct-IsPermutation is_key keys_equal.symm (keys_of es) (keys_of (e ∷ left)) (IsPermutation-map (λ (x : Key × ℤ). x.0) es (e ∷ left) moved) d in
    let two = unfolding_apart e left again in
    record {
      apart = two.1;
      gone = none_apart e.0 left two.0;
      others = λ k n. sym (lookup_tail (is_key k) e left n) ∙ lookup_permutation keys_equal es (e ∷ left) moved again (is_key k) (keys_equal.congr k);
    }

taken_by : (l : Key) (es : Entries) (o : Option ℕ) → position (is_key l) (keys_of es) ≡ o → IsApart es → Taken l es (without_entry l es)
taken_by l es None p d =
    let same : without_entry l es ≡ es = swap_remove_entry-missing (is_key l) es p in
    let none : found l es ≡ None = none_of_false (found l es) (sym (some_index (is_key l) es) ∙ ap is_some p) in
    subst (λ left. Taken l es left) (sym same) (record { apart = d; gone = none; others = λ k n. refl })
taken_by l es (Some i) p d =
    let at = Found-position (is_key l) es i p in
    let e : Key × ℤ = get_or es i (l, l.2) in
    let passes : is_key l (get_or (keys_of es) i l) ≡ true = (position-Some (is_key l) (keys_of es) i l p).1 in
    let key : get_or (keys_of es) i l ≡ e.0 = get_or-map (λ (x : Key × ℤ). x.0) es i (l, l.2) l at.within in
    let is : e.0 ≡ l = sym (same_key l (get_or (keys_of es) i l) passes ∙ key) in
    let left : without_entry l es ≡ swap_remove es i e = swap_remove_entry-found (is_key l) es i e p in
    let taken : Taken e.0 es (swap_remove es i e) = taken_first e es (swap_remove es i e) (IsPermutation-swap_remove es i e at.within (get_or_default es i (l, l.2) e at.within)) d in
    subst (λ rest. Taken l es rest) (sym left) (subst (λ k. Taken k es (swap_remove es i e)) is taken)

taken : (l : Key) (es : Entries) → IsApart es → Taken l es (without_entry l es)
taken l es d = taken_by l es (position (is_key l) (keys_of es)) refl d

pub apart_taken : (l : Key) (es : Entries) → IsApart es → IsApart (without_entry l es)
apart_taken l es d = (taken l es d).apart

pub found_taken : (l : Key) (es : Entries) → IsApart es → found l (without_entry l es) ≡ None
found_taken l es d = (taken l es d).gone

pub found_taken_other : (k l : Key) (es : Entries) → IsApart es → is_key k l ≡ false → found k (without_entry l es) ≡ found k es
found_taken_other k l es d n = (taken l es d).others k n
