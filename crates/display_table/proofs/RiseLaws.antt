-- What numbers that rise say of handles.
use Rattle.std.specs.Prelude.{AllPairs}
use Rattle.std.proofs.Common.{◌≡◌, ◌≢◌, ◌==◌, ℕ, zero, suc, ◌+◌, ◌<◌, ◌≤◌, ◌⊎◌, inl, inr, Bool, true, false, cond, List, [], ◌∷◌, Option, None, Some, length, get_or, refl, ap, arith}
use Rattle.std.specs.List.{filter, find}
use Rattle.std.proofs.lemmas.Bool.{ne_eqb, eq-eqb}
use Rattle.display_table.specs.declared.handles.Handle.{Handle}
use Rattle.display_table.specs.Handles.{RiseFrom}

rise_at : (low : ℕ) (xs : List Handle) (end k : ℕ) (d : Handle) → RiseFrom low xs end → k < length xs → low ≤ (get_or xs k d).number
rise_at low [] end k d r l = absurd (omega arith)
rise_at low (x ∷ xs) end zero d r l = r.0
rise_at low (x ∷ xs) end (suc k) d r l = let a = rise_at (x.number + 1) xs end k d r.1 (omega arith) in omega (arith, a, r.0)

pub rise_apart : (low : ℕ) (xs : List Handle) (end : ℕ) → RiseFrom low xs end → AllPairs (λ (g h : Handle). g.number ≢ h.number) xs
rise_apart low [] end r i j d l m = absurd (omega arith)
rise_apart low (x ∷ xs) end r i zero d l m = absurd (omega arith)
rise_apart low (x ∷ xs) end r zero (suc j) d l m = λ e. let a = rise_at (x.number + 1) xs end j d r.1 (omega arith) in omega (arith, a, e)
rise_apart low (x ∷ xs) end r (suc i) (suc j) d l m = rise_apart (x.number + 1) xs end r.1 i j d (omega arith) (omega arith)

pub rise_few : (low : ℕ) (xs : List Handle) (end : ℕ) → RiseFrom low xs end → length xs + low ≤ end
rise_few low [] end r = omega (arith, r)
rise_few low (x ∷ xs) end r = let a = rise_few (x.number + 1) xs end r.1 in omega (arith, a, r.0)

found_by : (b : Bool) (x h : Handle) (o : Option Handle) → cond b (Some x) o ≡ Some h → (x ≡ h) ⊎ (o ≡ Some h)
found_by true x h o e = inl cc
found_by false x h o e = inr e

found_low : (low : ℕ) (p : Handle → Bool) (h : Handle) (xs : List Handle) (end : ℕ) → RiseFrom low xs end → find p xs ≡ Some h → low ≤ h.number
found_low low p h [] end r e = absurd (let f : None ≡ Some h = e in cc)
found_low low p h (x ∷ xs) end r e = elim (found_by (p x) x h (find p xs) e) [
  | inl f ↦ let q : x.number ≡ h.number = ap (λ (y : Handle). y.number) f in omega (arith, q, r.0)
  | inr f ↦ let a = found_low (x.number + 1) p h xs end r.1 f in omega (arith, a, r.0)
]

none_high : (n : ℕ) (xs : List Handle) (low end : ℕ) → n < low → RiseFrom low xs end → filter (λ (y : Handle). y.number == n) xs ≡ []
none_high n [] low end l r = refl
none_high n (x ∷ xs) low end l r = rw (ne_eqb x.number n (λ e. absurd (omega (arith, e, r.0, l))), none_high n xs (x.number + 1) end (omega (arith, r.0, l)) r.1) refl

-- a handle that is found is the only one with its number
pub only_one : (low : ℕ) (p : Handle → Bool) (h : Handle) (xs : List Handle) (end : ℕ) → RiseFrom low xs end → find p xs ≡ Some h → filter (λ (y : Handle). y.number == h.number) xs ≡ h ∷ []
only_one low p h [] end r e = absurd (let f : None ≡ Some h = e in cc)
only_one low p h (x ∷ xs) end r e = elim (found_by (p x) x h (find p xs) e) [
  | inl f ↦
      let q : x.number ≡ h.number = ap (λ (y : Handle). y.number) f in
      rw (eq-eqb x.number h.number q, none_high h.number xs (x.number + 1) end (omega (arith, q)) r.1) (ap (λ (y : Handle). let l : List Handle = y ∷ [] in l) f)
  | inr f ↦
      let a = found_low (x.number + 1) p h xs end r.1 f in
      rw (ne_eqb x.number h.number (λ q. absurd (omega (arith, q, a)))) (only_one (x.number + 1) p h xs end r.1 f)
]
