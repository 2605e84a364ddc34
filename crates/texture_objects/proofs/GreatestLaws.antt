-- The greatest number that passes a test, and runs of numbers that all pass.
use Rattle.std.proofs.Common.{◌≡◌, ℕ, zero, suc, ◌+◌, ◌-◌, ◌<◌, ◌≤◌, Bool, true, false, ◌&&◌, cond, refl, sym, ap, ◌∙◌, arith, inl, inr}
use Rattle.std.proofs.lemmas.Bool.{cases_order, false≢true, and_parts, and_from}
use Rattle.texture_objects.specs.Greatest.{IsGreatest, greatest}
use Rattle.texture_objects.specs.Levels.{each_passes}

no_start : (test : ℕ → Bool) (j : ℕ) → 0 < j → j ≤ 0 → test j ≡ false
no_start test j h l = absurd (omega arith)

here : (test : ℕ → Bool) (n : ℕ) → test (suc n) ≡ true → IsGreatest test (suc n) (suc n)
here test n e = record {
  within = omega arith;
  passes = inr e;
  last = λ j h l. absurd (omega arith);
}

-- no number above the greatest one up to n passes, where n + 1 fails
past : (test : ℕ → Bool) (n k : ℕ) → IsGreatest test n k → test (suc n) ≡ false → (j : ℕ) → k < j → j ≤ suc n → test j ≡ false
past test n k g e j h l = elim (cases_order j (suc n)) [
  | inl s ↦ ap test s ∙ e
  | inr o ↦ elim o [
    | inl s ↦ g.last j h (omega arith)
    | inr s ↦ absurd (omega arith)
  ]
]

below : (test : ℕ → Bool) (n k : ℕ) → IsGreatest test n k → test (suc n) ≡ false → IsGreatest test (suc n) k
below test n k g e = record {
  within = omega (arith, g.within);
  passes = g.passes;
  last = past test n k g e;
}

step : (test : ℕ → Bool) (n : ℕ) (b : Bool) → test (suc n) ≡ b → IsGreatest test n (greatest test n) → IsGreatest test (suc n) (cond b (suc n) (greatest test n))
step test n true e g = here test n e
step test n false e g = below test n (greatest test n) g e

pub greatest-holds : (test : ℕ → Bool) (n : ℕ) → IsGreatest test n (greatest test n)
unfolding greatest
greatest-holds test zero = record { within = omega arith; passes = inl refl; last = no_start test }
greatest-holds test (suc n) = step test n (test (suc n)) refl (greatest-holds test n)

clash : (b : Bool) → b ≡ true → b ≡ false → ⊥
clash b e f = false≢true (sym f ∙ e)

-- no two numbers are greatest
no_lower : (test : ℕ → Bool) (n j k : ℕ) → IsGreatest test n j → IsGreatest test n k → j < k → ⊥
no_lower test n j k g h l = elim (h.passes) [
  | inl z ↦ omega arith
  | inr p ↦ clash (test k) p (g.last k l h.within)
]

pub greatest-is : (test : ℕ → Bool) (n k : ℕ) → IsGreatest test n k → greatest test n ≡ k
greatest-is test n k h = elim (cases_order (greatest test n) k) [
  | inl s ↦ s
  | inr o ↦ elim o [
    | inl s ↦ absurd (no_lower test n (greatest test n) k (greatest-holds test n) h s)
    | inr s ↦ absurd (no_lower test n k (greatest test n) h (greatest-holds test n) s)
  ]
]

less_one : (n : ℕ) → n ≡ suc n - 1
less_one n = omega arith

-- one more number is tried
pub greatest-next : (test : ℕ → Bool) (n : ℕ) → 1 ≤ n → greatest test n ≡ cond (test n) n (greatest test (n - 1))
unfolding greatest
greatest-next test zero h = absurd (omega arith)
greatest-next test (suc n) h = ap (λ m. cond (test (suc n)) (suc n) (greatest test m)) (less_one n)

pub greatest-within : (test : ℕ → Bool) (n : ℕ) → greatest test n ≤ n
greatest-within test n = (greatest-holds test n).within

-- ---- Runs of numbers.
pub each-next : (test : ℕ → Bool) (start count : ℕ) → 1 ≤ count → each_passes test start count ≡ (test start && each_passes test (start + 1) (count - 1))
unfolding each_passes
each-next test start zero h = absurd (omega arith)
each-next test start (suc count) h = ap (λ m. test start && each_passes test (start + 1) m) (less_one count)

pub each-passes : (test : ℕ → Bool) (start count : ℕ) → each_passes test start count ≡ true → (k : ℕ) → start ≤ k → k < start + count → test k ≡ true
unfolding each_passes
each-passes test start zero h k l m = absurd (omega arith)
each-passes test start (suc count) h k l m =
    let parts = and_parts (test start) (each_passes test (start + 1) count) h in
    let rest : start + 1 ≤ k → test k ≡ true = λ s. each-passes test (start + 1) count parts.1 k s (omega arith) in
    elim (cases_order start k) [
      | inl s ↦ ap test (sym s) ∙ parts.0
      | inr o ↦ elim o [
        | inl s ↦ rest (omega arith)
        | inr s ↦ absurd (omega arith)
      ]
    ]

pub all-pass : (test : ℕ → Bool) (start count : ℕ) → ((k : ℕ) → start ≤ k → k < start + count → test k ≡ true) → each_passes test start count ≡ true
unfolding each_passes
all-pass test start zero h = refl
all-pass test start (suc count) h =
    and_from (test start) (each_passes test (start + 1) count) (h start (omega arith) (omega arith))
    (all-pass test (start + 1) count (λ k l m. h k (omega arith) (omega arith)))

-- ---- Loops over the numbers from 1 up to a last one.
pub run-starts : (test : ℕ → Bool) (last : ℕ) → each_passes test 1 (last + 1 - 1) ≡ each_passes test 1 last
run-starts test last = let e : last + 1 - 1 ≡ last = omega arith in ap (each_passes test 1) e

next-count : (test : ℕ → Bool) (k last : ℕ) → k < last + 1 → each_passes test k (last + 1 - k) ≡ (test k && each_passes test (k + 1) (last + 1 - (k + 1)))
next-count test k last l =
    let e : last + 1 - k - 1 ≡ last + 1 - (k + 1) = omega arith in
    each-next test k (last + 1 - k) (omega arith) ∙ ap (λ n. test k && each_passes test (k + 1) n) e

pub run-goes-on : (test : ℕ → Bool) (k last : ℕ) (r : Bool) → k < last + 1 → test k ≡ true → each_passes test k (last + 1 - k) ≡ r → each_passes test (k + 1) (last + 1 - (k + 1)) ≡ r
run-goes-on test k last r l e h = sym (next-count test k last l ∙ ap (λ b. b && each_passes test (k + 1) (last + 1 - (k + 1))) e) ∙ h

pub run-stops : (test : ℕ → Bool) (k last : ℕ) (r : Bool) → k < last + 1 → test k ≡ false → each_passes test k (last + 1 - k) ≡ r → false ≡ r
run-stops test k last r l e h = sym (next-count test k last l ∙ ap (λ b. b && each_passes test (k + 1) (last + 1 - (k + 1))) e) ∙ h

pub run-ends : (test : ℕ → Bool) (k last : ℕ) (r : Bool) → last + 1 ≤ k → each_passes test k (last + 1 - k) ≡ r → true ≡ r
unfolding each_passes
run-ends test k last r l h = let e : last + 1 - k ≡ 0 = omega arith in sym (ap (each_passes test k) e) ∙ h

pub tries-from : (test : ℕ → Bool) → 0 ≡ greatest test (1 - 1)
unfolding greatest
tries-from test = refl

tries-one : (test : ℕ → Bool) (k : ℕ) → 1 ≤ k → greatest test (k + 1 - 1) ≡ cond (test k) k (greatest test (k - 1))
tries-one test k h = let e : k + 1 - 1 ≡ k = omega arith in ap (greatest test) e ∙ greatest-next test k h

pub tries-passed : (test : ℕ → Bool) (k : ℕ) → 1 ≤ k → test k ≡ true → k ≡ greatest test (k + 1 - 1)
tries-passed test k h e = sym (tries-one test k h ∙ ap (λ b. cond b k (greatest test (k - 1))) e)

pub tries-failed : (test : ℕ → Bool) (k level : ℕ) → 1 ≤ k → test k ≡ false → level ≡ greatest test (k - 1) → level ≡ greatest test (k + 1 - 1)
tries-failed test k level h e g = g ∙ sym (tries-one test k h ∙ ap (λ b. cond b k (greatest test (k - 1))) e)

pub tries-end : (test : ℕ → Bool) (k last level : ℕ) → k ≡ last + 1 → level ≡ greatest test (k - 1) → level ≡ greatest test last
tries-end test k last level e g = let f : k - 1 ≡ last = omega arith in g ∙ ap (greatest test) f
