-- The least powers of two.
use Rattle.std.proofs.Common.{◌≡◌, ℕ, zero, suc, ◌/◌, ◌^◌, ◌<◌, ◌≤◌, true, refl, sym, subst, ◌∙◌, arith, ⊎_elim}
use Rattle.std.proofs.lemmas.Bool.{cond-true, cond-false, cases_lt, le-leb, lt-leb}
use Rattle.std.proofs.Math.Pow.{pow_mono}
use Rattle.std.specs.Prelude.{max, min, nat_le, if◌then◌else◌}
use Rattle.std.specs.Int.{IsNextPowerOfTwo, IsPowerOfTwo}
use Rattle.scene_reader.specs.Items.{is_texture_side, least_power}

big : (k : ℕ) → 11 ≤ k → 2048 ≤ 2 ^ k
big k h = pow_mono {i = 11} {j = k} h

power_is : (n k : ℕ) → min n 1024 ≤ 2 ^ k → 2 ^ k / 2 < max 1 (min n 1024) → least_power n ≡ 2 ^ k
power_is n zero l u = cond-true _ _ _ (le-leb n 1 (omega arith))
power_is n (suc zero) l u = cond-false _ _ _ (lt-leb n 1 (omega arith)) ∙ cond-true _ _ _ (le-leb n 2 (omega arith))
power_is n (suc (suc zero)) l u = cond-false _ _ _ (lt-leb n 1 (omega arith)) ∙ cond-false _ _ _ (lt-leb n 2 (omega arith)) ∙ cond-true _ _ _ (le-leb n 4 (omega arith))
power_is n (suc (suc (suc zero))) l u =
    cond-false _ _ _ (lt-leb n 1 (omega arith)) ∙ cond-false _ _ _ (lt-leb n 2 (omega arith)) ∙ cond-false _ _ _ (lt-leb n 4 (omega arith))
    ∙ cond-true _ _ _ (le-leb n 8 (omega arith))
power_is n (suc (suc (suc (suc zero)))) l u =
    cond-false _ _ _ (lt-leb n 1 (omega arith)) ∙ cond-false _ _ _ (lt-leb n 2 (omega arith)) ∙ cond-false _ _ _ (lt-leb n 4 (omega arith))
    ∙ cond-false _ _ _ (lt-leb n 8 (omega arith)) ∙ cond-true _ _ _ (le-leb n 16 (omega arith))
power_is n (suc (suc (suc (suc (suc zero))))) l u =
    cond-false _ _ _ (lt-leb n 1 (omega arith)) ∙ cond-false _ _ _ (lt-leb n 2 (omega arith)) ∙ cond-false _ _ _ (lt-leb n 4 (omega arith))
    ∙ cond-false _ _ _ (lt-leb n 8 (omega arith)) ∙ cond-false _ _ _ (lt-leb n 16 (omega arith)) ∙ cond-true _ _ _ (le-leb n 32 (omega arith))
power_is n (suc (suc (suc (suc (suc (suc zero)))))) l u =
    cond-false _ _ _ (lt-leb n 1 (omega arith)) ∙ cond-false _ _ _ (lt-leb n 2 (omega arith)) ∙ cond-false _ _ _ (lt-leb n 4 (omega arith))
    ∙ cond-false _ _ _ (lt-leb n 8 (omega arith)) ∙ cond-false _ _ _ (lt-leb n 16 (omega arith)) ∙ cond-false _ _ _ (lt-leb n 32 (omega arith))
    ∙ cond-true _ _ _ (le-leb n 64 (omega arith))
power_is n (suc (suc (suc (suc (suc (suc (suc zero))))))) l u =
    cond-false _ _ _ (lt-leb n 1 (omega arith)) ∙ cond-false _ _ _ (lt-leb n 2 (omega arith)) ∙ cond-false _ _ _ (lt-leb n 4 (omega arith))
    ∙ cond-false _ _ _ (lt-leb n 8 (omega arith)) ∙ cond-false _ _ _ (lt-leb n 16 (omega arith)) ∙ cond-false _ _ _ (lt-leb n 32 (omega arith))
    ∙ cond-false _ _ _ (lt-leb n 64 (omega arith)) ∙ cond-true _ _ _ (le-leb n 128 (omega arith))
power_is n (suc (suc (suc (suc (suc (suc (suc (suc zero)))))))) l u =
    cond-false _ _ _ (lt-leb n 1 (omega arith)) ∙ cond-false _ _ _ (lt-leb n 2 (omega arith)) ∙ cond-false _ _ _ (lt-leb n 4 (omega arith))
    ∙ cond-false _ _ _ (lt-leb n 8 (omega arith)) ∙ cond-false _ _ _ (lt-leb n 16 (omega arith)) ∙ cond-false _ _ _ (lt-leb n 32 (omega arith))
    ∙ cond-false _ _ _ (lt-leb n 64 (omega arith)) ∙ cond-false _ _ _ (lt-leb n 128 (omega arith)) ∙ cond-true _ _ _ (le-leb n 256 (omega arith))
power_is n (suc (suc (suc (suc (suc (suc (suc (suc (suc zero))))))))) l u =
    cond-false _ _ _ (lt-leb n 1 (omega arith)) ∙ cond-false _ _ _ (lt-leb n 2 (omega arith)) ∙ cond-false _ _ _ (lt-leb n 4 (omega arith))
    ∙ cond-false _ _ _ (lt-leb n 8 (omega arith)) ∙ cond-false _ _ _ (lt-leb n 16 (omega arith)) ∙ cond-false _ _ _ (lt-leb n 32 (omega arith))
    ∙ cond-false _ _ _ (lt-leb n 64 (omega arith)) ∙ cond-false _ _ _ (lt-leb n 128 (omega arith)) ∙ cond-false _ _ _ (lt-leb n 256 (omega arith))
    ∙ cond-true _ _ _ (le-leb n 512 (omega arith))
power_is n (suc (suc (suc (suc (suc (suc (suc (suc (suc (suc zero)))))))))) l u =
    cond-false _ _ _ (lt-leb n 1 (omega arith)) ∙ cond-false _ _ _ (lt-leb n 2 (omega arith)) ∙ cond-false _ _ _ (lt-leb n 4 (omega arith))
    ∙ cond-false _ _ _ (lt-leb n 8 (omega arith)) ∙ cond-false _ _ _ (lt-leb n 16 (omega arith)) ∙ cond-false _ _ _ (lt-leb n 32 (omega arith))
    ∙ cond-false _ _ _ (lt-leb n 64 (omega arith)) ∙ cond-false _ _ _ (lt-leb n 128 (omega arith)) ∙ cond-false _ _ _ (lt-leb n 256 (omega arith))
    ∙ cond-false _ _ _ (lt-leb n 512 (omega arith))
power_is n (suc (suc (suc (suc (suc (suc (suc (suc (suc (suc (suc k))))))))))) l u =
    absurd (omega (arith, big (suc (suc (suc (suc (suc (suc (suc (suc (suc (suc (suc k))))))))))) (omega arith), u))

-- a power of two that isn't below a number, or 1,024, is the least where its half is
pub least_is : (n p : ℕ) → IsPowerOfTwo p → min n 1024 ≤ p → p / 2 < max 1 (min n 1024) → p ≡ least_power n
least_is n p w l u =
    let e : p ≡ 2 ^ w.0 = w.1 in
    e ∙ sym (power_is n w.0 (omega (arith, e, l)) (omega (arith, e, u)))

split : (n m x y : ℕ) (P : ℕ → Type 0) → (n ≤ m → P x) → (m < n → P y) → P (if nat_le n m then x else y)
split n m x y P a b = ⊎_elim
    (λ (l : m < n). subst P (sym (cond-false _ x y (lt-leb n m l))) (b l))
    (λ (l : n ≤ m). subst P (sym (cond-true _ x y (le-leb n m l))) (a l))
    (cases_lt m n)

pub least_side : (n : ℕ) → is_texture_side (least_power n) ≡ true
least_side n =
    let P : ℕ → Type 0 = λ p. is_texture_side p ≡ true in
    split n 1 1 _ P (λ l. refl) (λ l. split n 2 2 _ P (λ l. refl) (λ l. split n 4 4 _ P (λ l. refl) (λ l. split n 8 8 _ P (λ l. refl) (λ l. split n 16 16 _ P (λ l. refl) (λ l. split n 32 32 _ P (λ l. refl) (λ l. split n 64 64 _ P (λ l. refl) (λ l. split n 128 128 _ P (λ l. refl) (λ l. split n 256 256 _ P (λ l. refl) (λ l. split n 512 512 _ P (λ l. refl) (λ l. refl))))))))))

pub least_next : (n : ℕ) → n ≤ 1024 → IsNextPowerOfTwo n (least_power n)
least_next n h =
    let P : ℕ → Type 0 = λ p. IsNextPowerOfTwo n p in
    split n 1 1 _ P (λ (l : n ≤ 1). ((0, refl), l, omega (arith, l))) (λ (a1 : 1 < n). split n 2 2 _ P (λ (l : n ≤ 2). ((1, refl), l, omega (arith, l, a1))) (λ (a2 : 2 < n). split n 4 4 _ P (λ (l : n ≤ 4). ((2, refl), l, omega (arith, l, a2))) (λ (a4 : 4 < n). split n 8 8 _ P (λ (l : n ≤ 8). ((3, refl), l, omega (arith, l, a4))) (λ (a8 : 8 < n). split n 16 16 _ P (λ (l : n ≤ 16). ((4, refl), l, omega (arith, l, a8))) (λ (a16 : 16 < n). split n 32 32 _ P (λ (l : n ≤ 32). ((5, refl), l, omega (arith, l, a16))) (λ (a32 : 32 < n). split n 64 64 _ P (λ (l : n ≤ 64). ((6, refl), l, omega (arith, l, a32))) (λ (a64 : 64 < n). split n 128 128 _ P (λ (l : n ≤ 128). ((7, refl), l, omega (arith, l, a64))) (λ (a128 : 128 < n). split n 256 256 _ P (λ (l : n ≤ 256). ((8, refl), l, omega (arith, l, a128))) (λ (a256 : 256 < n). split n 512 512 _ P (λ (l : n ≤ 512). ((9, refl), l, omega (arith, l, a256))) (λ (a512 : 512 < n). ((10, refl), h, omega (arith, a512))))))))))))
