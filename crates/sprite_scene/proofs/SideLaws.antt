-- The sides that a texture may have.
use Rattle.std.proofs.Common.{◌≡◌, ℕ, ◌≤◌, pos, true, false, inl, inr, refl, sym, subst, arith}
use Rattle.std.specs.Prelude.{◌==◌, nat_le}
use Rattle.std.proofs.lemmas.Bool.{cond_both, eqb-true, or_cases}
use Rattle.std.proofs.lemmas.Bool.Decides.{nat_tests}
use Rattle.call_rules.specs.TextureRules.{is_no_level_side}
use Rattle.scene_reader.specs.Items.{is_texture_side, least_power}

at : (P : ℕ → Type 0) (k n : ℕ) → P k → (n == k) ≡ true → P n
at P k n p e = subst P (sym (eqb-true n k e)) p

-- what holds of each of them
pub side_cases : (P : ℕ → Type 0) → P 1 → P 2 → P 4 → P 8 → P 16 → P 32 → P 64 → P 128 → P 256 → P 512 → P 1024 → (n : ℕ) → is_texture_side n ≡ true → P n
side_cases P p1 p2 p4 p8 p16 p32 p64 p128 p256 p512 p1024 n h1024 = elim (or_cases _ (n == 1024) h1024) [
  | inl h512 ↦ elim (or_cases _ (n == 512) h512) [
    | inl h256 ↦ elim (or_cases _ (n == 256) h256) [
      | inl h128 ↦ elim (or_cases _ (n == 128) h128) [
        | inl h64 ↦ elim (or_cases _ (n == 64) h64) [
          | inl h32 ↦ elim (or_cases _ (n == 32) h32) [
            | inl h16 ↦ elim (or_cases _ (n == 16) h16) [
              | inl h8 ↦ elim (or_cases _ (n == 8) h8) [
                | inl h4 ↦ elim (or_cases _ (n == 4) h4) [
                  | inl h2 ↦ elim (or_cases _ (n == 2) h2) [
                    | inl h1 ↦ at P 1 n p1 h1
                    | inr e ↦ at P 2 n p2 e
                  ]
                  | inr e ↦ at P 4 n p4 e
                ]
                | inr e ↦ at P 8 n p8 e
              ]
              | inr e ↦ at P 16 n p16 e
            ]
            | inr e ↦ at P 32 n p32 e
          ]
          | inr e ↦ at P 64 n p64 e
        ]
        | inr e ↦ at P 128 n p128 e
      ]
      | inr e ↦ at P 256 n p256 e
    ]
    | inr e ↦ at P 512 n p512 e
  ]
  | inr e ↦ at P 1024 n p1024 e
]

-- a level 0 may have it
pub side_fits : (n : ℕ) → is_texture_side n ≡ true → is_no_level_side 0 (pos n) ≡ false
side_fits = side_cases (λ n. is_no_level_side 0 (pos n) ≡ false) refl refl refl refl refl refl refl refl refl refl refl

pub record IsTextureSide (n : ℕ) : Type 0 where
  pub low : 1 ≤ n
  pub high : n ≤ 1024

pub side_range : (n : ℕ) → is_texture_side n ≡ true → IsTextureSide n
side_range = side_cases IsTextureSide (record { low = omega arith; high = omega arith }) (record { low = omega arith; high = omega arith }) (record { low = omega arith; high = omega arith }) (record { low = omega arith; high = omega arith }) (record { low = omega arith; high = omega arith }) (record { low = omega arith; high = omega arith }) (record { low = omega arith; high = omega arith }) (record { low = omega arith; high = omega arith }) (record { low = omega arith; high = omega arith }) (record { low = omega arith; high = omega arith }) (record { low = omega arith; high = omega arith })

-- ---- The least power of two that isn't below a number.
-- what holds of each choice holds of the one that is made
power_of : (P : ℕ → Type 0) (n : ℕ) → P 1 → P 2 → P 4 → P 8 → P 16 → P 32 → P 64 → P 128 → P 256 → P 512 → P 1024 → P (least_power n)
power_of P n p1 p2 p4 p8 p16 p32 p64 p128 p256 p512 p1024 =
    cond_both (nat_le n 1) 1 _ P (λ _. p1) (λ _. cond_both (nat_le n 2) 2 _ P (λ _. p2) (λ _. cond_both (nat_le n 4) 4 _ P (λ _. p4) (λ _. cond_both (nat_le n 8) 8 _ P (λ _. p8) (λ _.
    cond_both (nat_le n 16) 16 _ P (λ _. p16) (λ _. cond_both (nat_le n 32) 32 _ P (λ _. p32) (λ _. cond_both (nat_le n 64) 64 _ P (λ _. p64) (λ _. cond_both (nat_le n 128) 128 _ P (λ _. p128) (λ _.
    cond_both (nat_le n 256) 256 _ P (λ _. p256) (λ _. cond_both (nat_le n 512) 512 1024 P (λ _. p512) (λ _. p1024))))))))))

pub power_side : (n : ℕ) → is_texture_side (least_power n) ≡ true
power_side n = power_of (λ k. is_texture_side k ≡ true) n refl refl refl refl refl refl refl refl refl refl refl

pub power_above : (n : ℕ) → n ≤ 1024 → n ≤ least_power n
power_above n l = grind (arith, nat_tests)
