-- The greatest number that passes a test.
use Rattle.std.specs.Prelude.{◌≡◌, ◌⊎◌, ℕ, zero, suc, ◌<◌, ◌≤◌, Bool, true, false, if◌then◌else◌}

-- the greatest number from 1 up to n that passes, and 0 where none does
unfoldable pub greatest : (ℕ → Bool) → ℕ → ℕ
greatest test zero = 0
greatest test (suc n) = if test (suc n) then suc n else greatest test n

-- the same as a fact: no number above it up to n passes, and it does, or it is 0
pub record IsGreatest (test : ℕ → Bool) (n k : ℕ) : Type 0 where
  pub within : k ≤ n
  pub passes : (k ≡ 0) ⊎ (test k ≡ true)
  pub last : (j : ℕ) → k < j → j ≤ n → test j ≡ false
