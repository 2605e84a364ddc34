-- Handles that rise, found by their numbers.
use Rattle.std.proofs.Common.{◌≡◌, ℕ, ◌+◌, ◌<◌, ◌≤◌, ◌&&◌, ◌==◌, Bool, true, false, cond, List, [], ◌∷◌, ◌++◌, Option, None, Some, refl, sym, ◌∙◌, ap, arith, inl, inr}
use Rattle.std.specs.List.{find}
use Rattle.std.specs.Option.{option_to_list}
use Rattle.std.proofs.lemmas.Bool.{cases_eq, cases_lt, eq-eqb, eqb-true, ne_eqb, lt-ltb, le-ltb}
use Rattle.display_table.specs.declared.handles.Handle.{Handle}
use Rattle.display_table.specs.declared.handles.HandleKind.{HandleKind}
use Rattle.display_table.specs.declared.handles.HandleKind.TheVariants.{Context, Surface, Image, Sync}
use Rattle.display_table.specs.Handles.{RiseFrom, is_named, is_same_kind}
use Rattle.driver_core.specs.Contents.{below, numbered}

-- ---- What stands above a number.
none_named : (n : ℕ) (k : HandleKind) (xs : List Handle) (low end : ℕ) → n < low → RiseFrom low xs end → find (is_named n k) xs ≡ None
none_named n k [] low end l r = refl
none_named n k (x ∷ xs) low end l r = rw (ne_eqb x.number n (λ e. absurd (omega (arith, e, r.0, l))), none_named n k xs (x.number + 1) end (omega (arith, r.0, l)) r.1) refl

none_numbered : (n : ℕ) (xs : List Handle) (low end : ℕ) → n < low → RiseFrom low xs end → numbered n xs ≡ None
none_numbered n [] low end l r = refl
none_numbered n (x ∷ xs) low end l r = rw (ne_eqb x.number n (λ e. absurd (omega (arith, e, r.0, l))), none_numbered n xs (x.number + 1) end (omega (arith, r.0, l)) r.1) refl

above : (n : ℕ) (xs : List Handle) (low end : ℕ) → n ≤ low → RiseFrom low xs end → below n xs ≡ []
above n [] low end l r = refl
above n (x ∷ xs) low end l r = rw (le-ltb x.number n (omega (arith, l, r.0)), above n xs (x.number + 1) end (omega (arith, r.0, l)) r.1) refl

-- ---- By number and kind, and by number alone.
found_by : (b k : Bool) (x h : Handle) (rest o : Option Handle) → (b ≡ true → rest ≡ None) → (rest ≡ Some h → o ≡ Some h) → cond (b && k) (Some x) rest ≡ Some h → cond b (Some x) o ≡ Some h
found_by true true x h rest o none more e = e
found_by true false x h rest o none more e = absurd (let f : None ≡ Some h = sym (none refl) ∙ e in cc)
found_by false k x h rest o none more e = more e

found_from : (low n : ℕ) (k : HandleKind) (h : Handle) (xs : List Handle) (end : ℕ) → RiseFrom low xs end → find (is_named n k) xs ≡ Some h → numbered n xs ≡ Some h
found_from low n k h [] end r e = absurd (let f : None ≡ Some h = e in cc)
found_from low n k h (x ∷ xs) end r e =
    found_by (x.number == n) (is_same_kind x.kind k) x h (find (is_named n k) xs) (numbered n xs) (λ t. none_named n k xs (x.number + 1) end (let q = eqb-true x.number n t in omega (arith, q)) r.1) (found_from (x.number + 1) n k h xs end r.1) e

-- a handle that is found by its number and its kind is the one with the number
pub found_numbered : (n : ℕ) (k : HandleKind) (h : Handle) (xs : List Handle) (end : ℕ) → RiseFrom 3 xs end → find (is_named n k) xs ≡ Some h → numbered n xs ≡ Some h
found_numbered n k h xs end r e = found_from 3 n k h xs end r e

last_by : (b : Bool) (k : HandleKind) (x : Handle) (c s i y o : Option Handle) → cond (b && is_same_kind k Context) (Some x) c ≡ None → cond (b && is_same_kind k Surface) (Some x) s ≡ None → cond (b && is_same_kind k Image) (Some x) i ≡ None → (c ≡ None → s ≡ None → i ≡ None → y ≡ o) → cond (b && is_same_kind k Sync) (Some x) y ≡ cond b (Some x) o
last_by false k x c s i y o hc hs hi more = more hc hs hi
last_by true Context x c s i y o hc hs hi more = absurd (let f : Some x ≡ None = hc in cc)
last_by true Surface x c s i y o hc hs hi more = absurd (let f : Some x ≡ None = hs in cc)
last_by true Image x c s i y o hc hs hi more = absurd (let f : Some x ≡ None = hi in cc)
last_by true Sync x c s i y o hc hs hi more = refl

-- what is of none of three kinds is of the fourth
pub last_kind : (n : ℕ) (xs : List Handle) → find (is_named n Context) xs ≡ None → find (is_named n Surface) xs ≡ None → find (is_named n Image) xs ≡ None → find (is_named n Sync) xs ≡ numbered n xs
last_kind n [] hc hs hi = refl
last_kind n (x ∷ xs) hc hs hi = last_by (x.number == n) x.kind x (find (is_named n Context) xs) (find (is_named n Surface) xs) (find (is_named n Image) xs) (find (is_named n Sync) xs) (numbered n xs) hc hs hi (last_kind n xs)

-- ---- Those below a number, one number after another.
pub none_below : (xs : List Handle) → [] ≡ below 0 xs
none_below [] = refl
none_below (x ∷ xs) = rw (le-ltb x.number 0 (omega arith)) (none_below xs)

more_from : (low n : ℕ) (xs : List Handle) (end : ℕ) → RiseFrom low xs end → below (n + 1) xs ≡ below n xs ++ option_to_list (numbered n xs)
more_from low n [] end r = refl
more_from low n (x ∷ xs) end r = elim (cases_eq x.number n) [
  | inl e ↦ rw (lt-ltb x.number (n + 1) (omega (arith, e)), le-ltb x.number n (omega (arith, e)), eq-eqb x.number n e, above (n + 1) xs (x.number + 1) end (omega (arith, e)) r.1, above n xs (x.number + 1) end (omega (arith, e)) r.1) refl
  | inr ne ↦ elim (cases_lt x.number n) [
    | inl l ↦ rw (lt-ltb x.number (n + 1) (omega (arith, l)), lt-ltb x.number n l, ne_eqb x.number n ne) (ap (λ ys. x ∷ ys) (more_from (x.number + 1) n xs end r.1))
    | inr l ↦ rw (le-ltb x.number (n + 1) (omega (arith, l, ne)), le-ltb x.number n l, ne_eqb x.number n ne) (more_from (x.number + 1) n xs end r.1)
  ]
]

-- the handles in front of a number, with the one that has it
pub next_below : (n end : ℕ) (xs : List Handle) (o : Option Handle) (old new : List Handle) → RiseFrom 3 xs end → o ≡ numbered n xs → new ≡ old ++ option_to_list o → old ≡ below n xs → new ≡ below (n + 1) xs
next_below n end xs o old new r e f g = f ∙ ap (λ l. l ++ option_to_list o) g ∙ ap (λ x. below n xs ++ option_to_list x) e ∙ sym (more_from 3 n xs end r)

all_from : (low : ℕ) (xs : List Handle) (end n : ℕ) → RiseFrom low xs end → end ≤ n → below n xs ≡ xs
all_from low [] end n r l = refl
all_from low (x ∷ xs) end n r l = rw (lt-ltb x.number n (omega (arith, first_below x.number xs end r.1, l))) (ap (λ ys. x ∷ ys) (all_from (x.number + 1) xs end n r.1 l))
  where
    first_below : (m : ℕ) (ys : List Handle) (end : ℕ) → RiseFrom (m + 1) ys end → m < end
    first_below m [] end r = omega (arith, r)
    first_below m (y ∷ ys) end r = let a = first_below y.number ys end r.1 in omega (arith, a, r.0)

pub all_below : (xs : List Handle) (end n : ℕ) → RiseFrom 3 xs end → end ≤ n → below n xs ≡ xs
all_below xs end n r l = all_from 3 xs end n r l
