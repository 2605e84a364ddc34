-- Which beds a turn empties, and whom it wakes.
use Rattle.std.proofs.Common.{◌≡◌, ◌≢◌, ℕ, zero, suc, ◌+◌, ◌<◌, ◌≤◌, Bool, true, false, ◌||◌, List, [], ◌∷◌, get_or, set, length, refl, sym, ap, ◌∙◌, subst, arith, inl, inr}
use Rattle.std.proofs.lemmas.Bool.{cases_lt}
use Rattle.std.proofs.lemmas.List.{get_or-set_same, get_or-set_other, length-replicate, length-set}
use Rattle.std.specs.Prelude.{if◌then◌else◌, replicate}
use Rattle.shared_driver.specs.declared.sleepers.Bed.{Bed}
use Rattle.shared_driver.specs.declared.sleepers.Bed.TheVariants.{Empty}

-- below a place the beds that pass a test are empty and woken, and from it on all are as they were
pub record IsRoused (p : Bed → Bool) (old new : List Bed) (w : List Bool) (a : Bool) (i : ℕ) : Type 0 where
  pub woken : (k : ℕ) → k < i → get_or w k false ≡ p (get_or old k Empty)
  pub quiet : (k : ℕ) → i ≤ k → get_or w k false ≡ false
  pub any : (k : ℕ) → get_or w k false ≡ true → a ≡ true
  pub beds : (k : ℕ) → k < i → get_or new k Empty ≡ (if p (get_or old k Empty) then Empty else get_or old k Empty)
  pub rest : (k : ℕ) → i ≤ k → get_or new k Empty ≡ get_or old k Empty
  pub long : length w ≡ 32

still : (n k : ℕ) → get_or (replicate n false) k false ≡ false
still zero k = refl
still (suc n) zero = refl
still (suc n) (suc k) = still n k

pub none_roused : (p : Bed → Bool) (beds : List Bed) (w : List Bool) (a : Bool) → w ≡ replicate 32 false → IsRoused p beds beds w a 0
none_roused p beds w a h = record {
  woken = λ k lt. absurd (omega (arith, lt));
  quiet = λ k le. none k;
  any = λ k t. absurd (let f : false ≡ true = sym (none k) ∙ t in cc);
  beds = λ k lt. absurd (omega (arith, lt));
  rest = λ k le. refl;
  long = ap (λ (l : List Bool). length l) h ∙ length-replicate 32 false;
}
  where
    none : (k : ℕ) → get_or w k false ≡ false
    none k = ap (λ (l : List Bool). get_or l k false) h ∙ still 32 k

empty_there : (beds : List Bed) (i : ℕ) → get_or (set beds i Empty) i Empty ≡ Empty
empty_there [] i = refl
empty_there (b ∷ beds) zero = refl
empty_there (b ∷ beds) (suc i) = empty_there beds i

by_place : (P : ℕ → Type 0) (i : ℕ) → ((k : ℕ) → k < i → P k) → P i → (k : ℕ) → k < i + 1 → P k
by_place P i below at k lt = elim (cases_lt k i) [
  | inl early ↦ below k early
  | inr late ↦ (let here : i ≡ k = omega (arith, late, lt) in subst P here at)
]

-- one bed more that passes
pub bed_roused : (p : Bed → Bool) (old new : List Bed) (w v : List Bool) (a b : Bool) (i : ℕ) → i < 32 → IsRoused p old new w a i → p (get_or new i Empty) ≡ true → v ≡ set w i true → b ≡ true → IsRoused p old (set new i Empty) v b (i + 1)
bed_roused p old new w v a b i lt h t e is = record {
  woken = by_place (λ k. get_or v k false ≡ p (get_or old k Empty)) i (λ k early. kept k (let ne : k ≢ i = grind (arith, early) in ne) ∙ h.woken k early) (at i ∙ get_or-set_same w i true false in_woken ∙ sym passes);
  quiet = λ k late. kept k (let ne : k ≢ i = grind (arith, late) in ne) ∙ h.quiet k (omega (arith, late));
  any = λ k _. is;
  beds = by_place (λ k. get_or (set new i Empty) k Empty ≡ (if p (get_or old k Empty) then Empty else get_or old k Empty)) i
      (λ k early. get_or-set_other new i k Empty Empty (let ne : k ≢ i = grind (arith, early) in ne) ∙ h.beds k early)
      (empty_there new i ∙ sym (ap (λ (c : Bool). if c then Empty else get_or old i Empty) passes));
  rest = λ k late. get_or-set_other new i k Empty Empty (let ne : k ≢ i = grind (arith, late) in ne) ∙ h.rest k (omega (arith, late));
  long = ap (λ (l : List Bool). length l) e ∙ length-set w i true ∙ h.long;
}
  where
    in_woken : i < length w
    in_woken = let many = h.long in omega (arith, lt, many)

    at : (k : ℕ) → get_or v k false ≡ get_or (set w i true) k false
    at k = ap (λ (l : List Bool). get_or l k false) e

    kept : (k : ℕ) → k ≢ i → get_or v k false ≡ get_or w k false
    kept k ne = at k ∙ get_or-set_other w i k true false ne

    passes : p (get_or old i Empty) ≡ true
    passes = sym (ap p (h.rest i (omega arith))) ∙ t

-- one that doesn't
pub bed_stays : (p : Bed → Bool) (old new : List Bed) (w : List Bool) (a : Bool) (i : ℕ) → IsRoused p old new w a i → p (get_or new i Empty) ≡ false → IsRoused p old new w a (i + 1)
bed_stays p old new w a i h f = record {
  woken = by_place (λ k. get_or w k false ≡ p (get_or old k Empty)) i h.woken (h.quiet i (omega arith) ∙ sym fails);
  quiet = λ k late. h.quiet k (omega (arith, late));
  any = h.any;
  beds = by_place (λ k. get_or new k Empty ≡ (if p (get_or old k Empty) then Empty else get_or old k Empty)) i h.beds (h.rest i (omega arith) ∙ sym (ap (λ (c : Bool). if c then Empty else get_or old i Empty) fails));
  rest = λ k late. h.rest k (omega (arith, late));
  long = h.long;
}
  where
    fails : p (get_or old i Empty) ≡ false
    fails = sym (ap p (h.rest i (omega arith))) ∙ f

-- one bed more, whether it passes or not
pub bed_next : (p : Bed → Bool) (old new next : List Bed) (w v : List Bool) (a c : Bool) (i : ℕ) (b : Bool) → i < 32 → IsRoused p old new w a i → b ≡ p (get_or new i Empty)
    → next ≡ (if b then set new i Empty else new) → v ≡ (if b then set w i true else w) → c ≡ (b || a) → IsRoused p old next v c (i + 1)
bed_next p old new next w v a c i true lt h t beds woken any =
    let P : List Bed → Type 0 = λ l. IsRoused p old l v c (i + 1) in
    subst P (sym beds) (bed_roused p old new w v a c i lt h (sym t) woken any)
bed_next p old new next w v a c i false lt h f beds woken any =
    let P : List Bed → Type 0 = λ l. IsRoused p old l v c (i + 1) in
    let Q : List Bool → Type 0 = λ l. IsRoused p old new l c (i + 1) in
    let R : Bool → Type 0 = λ x. IsRoused p old new w x (i + 1) in
    subst P (sym beds) (subst Q (sym woken) (subst R (sym any) (bed_stays p old new w a i h (sym f))))
