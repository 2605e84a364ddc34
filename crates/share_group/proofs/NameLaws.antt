-- Names in rising order.
use Rattle.std.proofs.Common.{◌≡◌, ◌≢◌, ℕ, zero, suc, ◌+◌, ◌<◌, ◌≤◌, Bool, true, false, not, ◌==◌, if◌then◌else◌, List, [], ◌∷◌, ◌++◌, Option, None, Some, length, refl, sym, ◌∙◌, ap, subst, arith, inl, inr, length-append, add-one, ◌-◌, slice_index}
use Rattle.std.proofs.lemmas.List.{get_or_append_left, get_or-append_right}
use Rattle.std.proofs.lemmas.Option.{slice_get-get_or, slice_get_past}
use Rattle.std.specs.List.{filter, find, slice_get}
use Rattle.std.specs.Option.{option_or, unwrap_or}
use Rattle.std.proofs.lemmas.List.Elements.{filter-append, filter_map-append}
use Rattle.std.proofs.lemmas.List.Folds.{find-append}
use Rattle.std.proofs.lemmas.Bool.{cases_eq, cases_lt, cases_order, ne_eqb, eq-eqb, lt-ltb, le-ltb}
use Rattle.share_group.specs.declared.names.Name.{Name}
use Rattle.share_group.specs.Names.{Rise, after, all_without, fresh, given, is_of, is_used, objects_in, put, unused_from, without}

-- lists that rise

pub rise_weaken : (low m : ℕ) (xs : List Name) (end : ℕ) → low ≤ m → Rise m xs end → Rise low xs end
rise_weaken low m [] end l r = omega arith
rise_weaken low m (x ∷ xs) end l r = (omega arith, r.1)

pub rise_length : (low : ℕ) (xs : List Name) (end : ℕ) → Rise low xs end → low + length xs ≤ end
rise_length low [] end r = omega arith
rise_length low (x ∷ xs) end r = omega (arith, rise_length (x.name + 1) xs end r.1, r.0)

pub rise-append : (low : ℕ) (xs ys : List Name) (m end : ℕ) → Rise low xs m → Rise m ys end → Rise low (xs ++ ys) end
rise-append low [] ys m end r s = rise_weaken low m ys end r s
rise-append low (x ∷ xs) ys m end r s = (r.0, rise-append (x.name + 1) xs ys m end r.1 s)

-- searches

pub find_below : (name low : ℕ) (xs : List Name) (end : ℕ) → name < low → Rise low xs end → find (is_of name) xs ≡ None
find_below name low [] end l r = refl
find_below name low (x ∷ xs) end l r = rw (ne_eqb x.name name (λ e. absurd (omega (arith, r.0)))) (find_below name (x.name + 1) xs end (omega (arith, r.0)) r.1)

pub find_above : (name low : ℕ) (xs : List Name) (end : ℕ) → end ≤ name → Rise low xs end → find (is_of name) xs ≡ None
find_above name low [] end l r = refl
find_above name low (x ∷ xs) end l r = rw (ne_eqb x.name name (λ e. absurd (omega (arith, rise_length (x.name + 1) xs end r.1)))) (find_above name (x.name + 1) xs end l r.1)

option_or_none : (o : Option Name) → option_or o None ≡ o
option_or_none None = refl
option_or_none (Some x) = refl

pub find-lower : (name : ℕ) (xs ys : List Name) (m end : ℕ) → name < m → Rise m ys end → find (is_of name) (xs ++ ys) ≡ find (is_of name) xs
find-lower name xs ys m end l r = rw (find-append (is_of name) xs ys, find_below name m ys end l r) (option_or_none (find (is_of name) xs))

pub find-upper : (name low : ℕ) (xs ys : List Name) (m : ℕ) → m ≤ name → Rise low xs m → find (is_of name) (xs ++ ys) ≡ find (is_of name) ys
find-upper name low xs ys m l r = rw (find-append (is_of name) xs ys, find_above name low xs m l r) refl

-- a name put in its place

pub put-less : (e x : Name) (xs : List Name) → e.name < x.name → put e (x ∷ xs) ≡ e ∷ x ∷ xs
put-less e x xs l = rw (lt-ltb e.name x.name l) refl

pub put-same : (e x : Name) (xs : List Name) → e.name ≡ x.name → put e (x ∷ xs) ≡ e ∷ xs
put-same e x xs q = rw (le-ltb e.name x.name (omega arith), eq-eqb e.name x.name q) refl

pub put-more : (e x : Name) (xs : List Name) → x.name < e.name → put e (x ∷ xs) ≡ x ∷ put e xs
put-more e x xs l = rw (le-ltb e.name x.name (omega arith), ne_eqb e.name x.name (λ q. absurd (omega arith))) refl

put_first : (e : Name) (ys : List Name) (m end : ℕ) → e.name < m → Rise m ys end → put e ys ≡ e ∷ ys
put_first e [] m end l r = refl
put_first e (y ∷ ys) m end l r = put-less e y ys (omega (arith, r.0))

pub put-lower : (e : Name) (xs ys : List Name) (m end : ℕ) → e.name < m → Rise m ys end → put e (xs ++ ys) ≡ put e xs ++ ys
put-lower e [] ys m end l r = put_first e ys m end l r
put-lower e (x ∷ xs) ys m end l r = elim (cases_order e.name x.name) [
  | inl q ↦ rw (put-same e x (xs ++ ys) q, put-same e x xs q) refl
  | inr o ↦ elim o [
    | inl less ↦ rw (put-less e x (xs ++ ys) less, put-less e x xs less) refl
    | inr more ↦ rw (put-more e x (xs ++ ys) more, put-more e x xs more, put-lower e xs ys m end l r) refl
  ]
]

pub put-upper : (e : Name) (low : ℕ) (xs ys : List Name) (m : ℕ) → m ≤ e.name → Rise low xs m → put e (xs ++ ys) ≡ xs ++ put e ys
put-upper e low [] ys m l r = refl
put-upper e low (x ∷ xs) ys m l r =
    let above : x.name < e.name = omega (arith, rise_length (x.name + 1) xs m r.1) in
    rw (put-more e x (xs ++ ys) above, put-upper e (x.name + 1) xs ys m l r.1) refl

pub rise-put : (e : Name) (low : ℕ) (xs : List Name) (end : ℕ) → low ≤ e.name → e.name < end → Rise low xs end → Rise low (put e xs) end
rise-put e low [] end l h r = (l, omega arith)
rise-put e low (x ∷ xs) end l h r = elim (cases_order e.name x.name) [
  | inl q ↦ rw (put-same e x xs q) (l, subst (λ n. Rise (n + 1) xs end) (sym q) r.1)
  | inr o ↦ elim o [
    | inl less ↦ rw (put-less e x xs less) (l, (omega arith, r.1))
    | inr more ↦ rw (put-more e x xs more) (r.0, rise-put e (x.name + 1) xs end (omega arith) h r.1)
  ]
]

-- names that go

pub without_below : (name low : ℕ) (xs : List Name) (end : ℕ) → name < low → Rise low xs end → without name xs ≡ xs
without_below name low [] end l r = refl
without_below name low (x ∷ xs) end l r = rw (ne_eqb x.name name (λ e. absurd (omega (arith, r.0))), without_below name (x.name + 1) xs end (omega (arith, r.0)) r.1) refl

pub without_above : (name low : ℕ) (xs : List Name) (end : ℕ) → end ≤ name → Rise low xs end → without name xs ≡ xs
without_above name low [] end l r = refl
without_above name low (x ∷ xs) end l r = rw (ne_eqb x.name name (λ e. absurd (omega (arith, rise_length (x.name + 1) xs end r.1))), without_above name (x.name + 1) xs end l r.1) refl

pub without-lower : (name : ℕ) (xs ys : List Name) (m end : ℕ) → name < m → Rise m ys end → without name (xs ++ ys) ≡ without name xs ++ ys
without-lower name xs ys m end l r = rw (filter-append (λ n. not (is_of name n)) xs ys, without_below name m ys end l r) refl

pub without-upper : (name low : ℕ) (xs ys : List Name) (m : ℕ) → m ≤ name → Rise low xs m → without name (xs ++ ys) ≡ xs ++ without name ys
without-upper name low xs ys m l r = rw (filter-append (λ n. not (is_of name n)) xs ys, without_above name low xs m l r) refl

rise_skip : (b : Bool) (low : ℕ) (x : Name) (xs : List Name) (end : ℕ) → low ≤ x.name → Rise (x.name + 1) xs end → Rise low (if b then x ∷ xs else xs) end
rise_skip true low x xs end l r = (l, r)
rise_skip false low x xs end l r = rise_weaken low (x.name + 1) xs end (omega arith) r

pub rise-without : (name low : ℕ) (xs : List Name) (end : ℕ) → Rise low xs end → Rise low (without name xs) end
rise-without name low [] end r = r
rise-without name low (x ∷ xs) end r = rise_skip (not (is_of name x)) low x (without name xs) end r.0 (rise-without name (x.name + 1) xs end r.1)

-- the smallest unused number

pub low-unused : (low : ℕ) (xs : List Name) → low ≤ unused_from low xs
low-unused low [] = omega arith
low-unused low (x ∷ xs) = elim (cases_eq x.name low) [
  | inl q ↦ rw (eq-eqb x.name low q) (omega (arith, low-unused (low + 1) xs))
  | inr ne ↦ rw (ne_eqb x.name low ne) (omega arith)
]

pub unused-high : (low : ℕ) (xs : List Name) (end : ℕ) → Rise low xs end → unused_from low xs ≤ end
unused-high low [] end r = r
unused-high low (x ∷ xs) end r = elim (cases_eq x.name low) [
  | inl q ↦ rw (eq-eqb x.name low q) (unused-high (low + 1) xs end (subst (λ n. Rise (n + 1) xs end) q r.1))
  | inr ne ↦ rw (ne_eqb x.name low ne) (omega (arith, r.0, rise_length (x.name + 1) xs end r.1))
]

unused_first : (low : ℕ) (ys : List Name) (m end : ℕ) → low < m → Rise m ys end → unused_from low ys ≡ low
unused_first low [] m end l r = refl
unused_first low (y ∷ ys) m end l r = rw (ne_eqb y.name low (λ e. absurd (omega (arith, r.0)))) refl

-- where the lower half is full, the smallest one is in the upper half
pub unused-upper : (low : ℕ) (xs ys : List Name) (m : ℕ) → Rise low xs m → low + length xs ≡ m → unused_from low (xs ++ ys) ≡ unused_from m ys
unused-upper low [] ys m r e = let q : low ≡ m = omega arith in ap (λ n. unused_from n ys) q
unused-upper low (x ∷ xs) ys m r e = elim (cases_eq x.name low) [
  | inl q ↦ rw (eq-eqb x.name low q) (unused-upper (low + 1) xs ys m (subst (λ n. Rise (n + 1) xs m) q r.1) (omega arith))
  | inr ne ↦ absurd (omega (arith, r.0, rise_length (x.name + 1) xs m r.1))
]

pub unused-lower : (low : ℕ) (xs ys : List Name) (m end : ℕ) → Rise low xs m → Rise m ys end → low + length xs ≢ m → unused_from low (xs ++ ys) ≡ unused_from low xs
unused-lower low [] ys m end r s ne = unused_first low ys m end (omega arith) s
unused-lower low (x ∷ xs) ys m end r s ne = elim (cases_eq x.name low) [
  | inl q ↦ rw (eq-eqb x.name low q) (unused-lower (low + 1) xs ys m end (subst (λ n. Rise (n + 1) xs m) q r.1) s (λ e. ne (omega arith)))
  | inr other ↦ rw (ne_eqb x.name low other) refl
]

not_first : (n : ℕ) (x : Name) (xs : List Name) → x.name ≢ n → find (is_of n) xs ≡ None → find (is_of n) (x ∷ xs) ≡ None
not_first n x xs ne f = rw (ne_eqb x.name n ne) f

unused_next : (low : ℕ) (x : Name) (xs : List Name) → x.name ≡ low → unused_from low (x ∷ xs) ≡ unused_from (low + 1) xs
unused_next low x xs q = rw (eq-eqb x.name low q) refl

unused_here : (low : ℕ) (x : Name) (xs : List Name) → x.name ≢ low → unused_from low (x ∷ xs) ≡ low
unused_here low x xs ne = rw (ne_eqb x.name low ne) refl

pub unused_not_used : (low : ℕ) (xs : List Name) (end : ℕ) → Rise low xs end → find (is_of (unused_from low xs)) xs ≡ None
unused_not_used low [] end r = refl
unused_not_used low (x ∷ xs) end r = elim (cases_eq x.name low) [
  | inl q ↦
      let none : find (is_of (unused_from (low + 1) xs)) xs ≡ None = unused_not_used (low + 1) xs end (subst (λ n. Rise (n + 1) xs end) q r.1) in
      subst (λ n. find (is_of n) (x ∷ xs) ≡ None) (sym (unused_next low x xs q)) (not_first (unused_from (low + 1) xs) x xs (λ e. absurd (omega (arith, low-unused (low + 1) xs))) none)
  | inr ne ↦
      subst (λ n. find (is_of n) (x ∷ xs) ≡ None) (sym (unused_here low x xs ne)) (not_first low x xs ne (find_below low (x.name + 1) xs end (omega (arith, r.0)) r.1))
]

-- each smaller number is used
pub smaller_used : (low n : ℕ) (xs : List Name) (end : ℕ) → Rise low xs end → low ≤ n → n < unused_from low xs → is_used n xs ≡ true
smaller_used low n [] end r l h = absurd (omega arith)
smaller_used low n (x ∷ xs) end r l h = elim (cases_eq x.name low) [
  | inl q ↦
      let below : n < unused_from (low + 1) xs = rw (eq-eqb x.name low q) at h in
      elim (cases_eq x.name n) [
        | inl e ↦ rw (eq-eqb x.name n e) refl
        | inr ne ↦ rw (ne_eqb x.name n ne) (smaller_used (low + 1) n xs end (subst (λ k. Rise (k + 1) xs end) q r.1) (omega arith) below)
      ]
  | inr ne ↦
      let below : n < low = rw (ne_eqb x.name low ne) at h in
      absurd (omega arith)
]

some_none : (x : Name) → Some x ≡ None → ⊥
some_none x e = cc

-- what was put and was not there is taken back
pub without-put : (e : Name) (low : ℕ) (xs : List Name) (end : ℕ) → Rise low xs end → find (is_of e.name) xs ≡ None → without e.name (put e xs) ≡ xs
without-put e low [] end r f = rw (eq-eqb e.name e.name refl) refl
without-put e low (x ∷ xs) end r f = elim (cases_order e.name x.name) [
  | inl q ↦ absurd (some_none x (rw (eq-eqb x.name e.name (sym q)) at f))
  | inr o ↦ elim o [
    | inl less ↦ rw (put-less e x xs less, eq-eqb e.name e.name refl) (without_below e.name x.name (x ∷ xs) end less (omega arith, r.1))
    | inr more ↦
        let ne : (x.name == e.name) ≡ false = ne_eqb x.name e.name (λ q. absurd (omega arith)) in
        rw (put-more e x xs more, ne, without-put e (x.name + 1) xs end r.1 (rw ne at f)) refl
  ]
]

pub objects-append : (xs ys : List Name) → objects_in (xs ++ ys) ≡ objects_in xs ++ objects_in ys
objects-append xs ys = filter_map-append (λ (n : Name). n.object) xs ys

pub objects_length : (xs ys : List Name) → length (objects_in (xs ++ ys)) ≡ length (objects_in xs) + length (objects_in ys)
objects_length xs ys = rw (objects-append xs ys, length-append (objects_in xs) (objects_in ys)) refl

objects_few_more : (x : Name) (xs : List Name) (o : Option ℕ) → o ≡ x.object → length (objects_in xs) ≤ length xs → length (objects_in (x ∷ xs)) ≤ length (x ∷ xs)
objects_few_more x xs None e h = rw (← e) (omega arith)
objects_few_more x xs (Some n) e h = rw (← e) (omega arith)

pub objects_few : (xs : List Name) → length (objects_in xs) ≤ length xs
objects_few [] = omega arith
objects_few (x ∷ xs) = objects_few_more x xs x.object refl (objects_few xs)

-- objects by their number

pub slice_get-lower : (xs ys : List ℕ) (k : ℕ) → k < length xs → slice_get (xs ++ ys) k ≡ slice_get xs k
slice_get-lower xs ys k h = slice_get-get_or (xs ++ ys) k 0 (omega (arith, length-append xs ys)) ∙ ap Some (get_or_append_left xs ys 0 k h) ∙ sym (slice_get-get_or xs k 0 h)

pub slice_get-upper : (xs ys : List ℕ) (n k : ℕ) → n ≡ length xs → n ≤ k → slice_get (xs ++ ys) k ≡ slice_get ys (k - n)
slice_get-upper xs ys n k e h = elim (cases_lt (k - n) (length ys)) [
  | inl less ↦ slice_get-get_or (xs ++ ys) k 0 (omega (arith, length-append xs ys)) ∙ ap Some (get_or-append_right xs ys n k 0 (sym e) h) ∙ sym (slice_get-get_or ys (k - n) 0 less)
  | inr more ↦ slice_get_past (xs ++ ys) k (omega (arith, length-append xs ys)) ∙ sym (slice_get_past ys (k - n) more)
]

-- how many objects there are

objects_one : (x : Name) (xs : List Name) (o : Option ℕ) → o ≡ x.object → length (objects_in (x ∷ xs)) ≡ length (objects_in (x ∷ [])) + length (objects_in xs)
objects_one x xs None e = rw (← e) (omega arith)
objects_one x xs (Some n) e = rw (← e) (omega arith)

objects_first : (x : Name) (xs : List Name) → length (objects_in (x ∷ xs)) ≡ length (objects_in (x ∷ [])) + length (objects_in xs)
objects_first x xs = objects_one x xs x.object refl

pub objects_put : (e : Name) (xs : List Name) → length (objects_in (put e xs)) ≤ length (objects_in (e ∷ [])) + length (objects_in xs)
objects_put e [] = omega arith
objects_put e (x ∷ xs) = elim (cases_order e.name x.name) [
  | inl q ↦ rw (put-same e x xs q) (omega (arith, objects_first e xs, objects_first x xs))
  | inr o ↦ elim o [
    | inl less ↦ rw (put-less e x xs less) (omega (arith, objects_first e (x ∷ xs)))
    | inr more ↦ rw (put-more e x xs more) (omega (arith, objects_first x (put e xs), objects_first x xs, objects_put e xs))
  ]
]

objects_skip : (b : Bool) (x : Name) (ys xs : List Name) → length (objects_in ys) ≤ length (objects_in xs) → length (objects_in (if b then x ∷ ys else ys)) ≤ length (objects_in (x ∷ xs))
objects_skip true x ys xs h = omega (arith, objects_first x ys, objects_first x xs)
objects_skip false x ys xs h = omega (arith, objects_first x xs)

pub objects_without : (name : ℕ) (xs : List Name) → length (objects_in (without name xs)) ≤ length (objects_in xs)
objects_without name [] = omega arith
objects_without name (x ∷ xs) = objects_skip (not (is_of name x)) x (without name xs) xs (objects_without name xs)

-- generated names

pub after_more : (n : ℕ) (xs : List Name) → after (n + 1) xs ≡ put (fresh (unused_from 1 (after n xs))) (after n xs)
unfolding after
after_more n xs = rw add-one refl

pub given_more : (n : ℕ) (xs : List Name) → given (n + 1) xs ≡ given n xs ++ unused_from 1 (after n xs) ∷ []
unfolding given
given_more n xs = rw add-one refl

pub objects_after : (n : ℕ) (xs : List Name) → length (objects_in (after n xs)) ≤ length (objects_in xs)
unfolding after
objects_after zero xs = omega arith
objects_after (suc n) xs = omega (arith, objects_put (fresh (unused_from 1 (after n xs))) (after n xs), objects_after n xs)

rise_end : (low : ℕ) (xs : List Name) (m end : ℕ) → m ≤ end → Rise low xs m → Rise low xs end
rise_end low [] m end l r = omega arith
rise_end low (x ∷ xs) m end l r = (r.0, rise_end (x.name + 1) xs m end l r.1)

pub rise-after : (n : ℕ) (xs : List Name) (end : ℕ) → Rise 1 xs end → Rise 1 (after n xs) (end + n)
unfolding after
rise-after zero xs end r = rise_end 1 xs end (end + zero) (omega arith) r
rise-after (suc n) xs end r =
    let s : Rise 1 (after n xs) (end + n) = rise-after n xs end r in
    rise-put (fresh (unused_from 1 (after n xs))) 1 (after n xs) (end + suc n) (low-unused 1 (after n xs)) (omega (arith, unused-high 1 (after n xs) (end + n) s)) (rise_end 1 (after n xs) (end + n) (end + suc n) (omega arith) s)

filter_skip : (p q : Name → Bool) (x : Name) (xs : List Name) (b c : Bool) → b ≡ p x → c ≡ q x → filter p (filter q xs) ≡ filter q (filter p xs) → filter p (filter q (x ∷ xs)) ≡ filter q (filter p (x ∷ xs))
filter_skip p q x xs true true e d h = rw (← e, ← d, ← e) (ap (λ ys. x ∷ ys) h)
filter_skip p q x xs true false e d h = rw (← e, ← d) h
filter_skip p q x xs false true e d h = rw (← e, ← d, ← e) h
filter_skip p q x xs false false e d h = rw (← e, ← d) h

filter_swap : (p q : Name → Bool) (xs : List Name) → filter p (filter q xs) ≡ filter q (filter p xs)
filter_swap p q [] = refl
filter_swap p q (x ∷ xs) = filter_skip p q x xs (p x) (q x) refl refl (filter_swap p q xs)

all_without_last : (ns : List ℕ) (n : ℕ) (xs : List Name) → all_without (ns ++ n ∷ []) xs ≡ all_without ns (without n xs)
all_without_last [] n xs = refl
all_without_last (m ∷ ns) n xs = all_without_last ns n (without m xs) ∙ ap (all_without ns) (filter_swap (λ k. not (is_of n k)) (λ k. not (is_of m k)) xs)

-- the generated names freed again leave what was there
pub taken_back : (n : ℕ) (xs : List Name) (end : ℕ) → Rise 1 xs end → all_without (given n xs) (after n xs) ≡ xs
unfolding after given
taken_back zero xs end r = refl
taken_back (suc n) xs end r =
    let s : Rise 1 (after n xs) (end + n) = rise-after n xs end r in
    let back : without (unused_from 1 (after n xs)) (put (fresh (unused_from 1 (after n xs))) (after n xs)) ≡ after n xs = without-put (fresh (unused_from 1 (after n xs))) 1 (after n xs) (end + n) s (unused_not_used 1 (after n xs) (end + n) s) in
    all_without_last (given n xs) (unused_from 1 (after n xs)) (put (fresh (unused_from 1 (after n xs))) (after n xs)) ∙ ap (all_without (given n xs)) back ∙ taken_back n xs end r

pub found_object : (xs : List ℕ) (k m r : ℕ) (o : Option ℕ) → m ≡ k → o ≡ slice_get xs m → r ≡ unwrap_or o 0 → k < length xs → r ≡ slice_index xs k
found_object xs k m r o e q w h = w ∙ ap (λ (p : Option ℕ). unwrap_or p 0) (q ∙ ap (slice_get xs) e ∙ slice_get-get_or xs k 0 h)

pub four_lengths : (a b c d : List ℕ) → length (a ++ (b ++ (c ++ d))) ≡ length a + length b + length c + length d
four_lengths a b c d = omega (arith, length-append a (b ++ (c ++ d)), length-append b (c ++ d), length-append c d)
