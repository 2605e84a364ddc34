-- Products of small numbers.
use Rattle.std.proofs.Common.{◌≡◌, ℕ, ◌+◌, ◌-◌, ◌*◌, ◌/◌, ◌<◌, ◌≤◌, sym, subst, ap, ◌∙◌, arith, Fits, w8}
use Rattle.std.proofs.Math.Nat.{mul-le-mul, mul_assoc}
use Rattle.sprite_scene.specs.Samples.{rounded, weighted}
use Rattle.sprite_scene.proofs.SmoothLaws.{rounded_byte}

pub product_small : (a b : ℕ) → a ≤ 2048 → b ≤ 1048576 → a * b ≤ 2147483648
product_small a b k l = let e = mul-le-mul {n₁ = a} {m₁ = b} {n₂ = 2048} {m₂ = 1048576} k l in omega (arith, e)

pub area_small : (a b : ℕ) → a ≤ 1024 → b ≤ 1024 → a * b ≤ 1048576
area_small a b k l = let e = mul-le-mul {n₁ = a} {m₁ = b} {n₂ = 1024} {m₂ = 1024} k l in omega (arith, e)

pub area_some : (a b : ℕ) → 1 ≤ a → 1 ≤ b → 1 ≤ a * b
area_some a b k l = let e = mul-le-mul {n₁ = 1} {m₁ = 1} {n₂ = a} {m₂ = b} k l in omega (arith, e)

pub four_times : (w h : ℕ) → 2 * w * (2 * h) ≡ 4 * w * h
four_times w h =
    let a = mul_assoc (2 * w) 2 h in
    let b : 2 * w * 2 ≡ 4 * w = omega arith in
    sym a ∙ ap (λ n. n * h) b

-- the nearest component of four, by the steps in which it is computed
pub mixed_by : (w h f g a b c d left right sum whole : ℕ) → left ≡ (2 * h - g) * a + g * c → right ≡ (2 * h - g) * b + g * d → sum ≡ (2 * w - f) * left + f * right → whole ≡ 2 * w * (2 * h) →
    (2 * sum + whole) / (2 * whole) ≡ rounded w h (weighted w h f g a b c d)
mixed_by w h f g a b c d left right sum whole el er es ew =
    let whole_is : whole ≡ 4 * w * h = ew ∙ four_times w h in
    let sum_is : sum ≡ weighted w h f g a b c d = es ∙ ap (λ n. (2 * w - f) * n + f * right) el ∙ ap (λ n. (2 * w - f) * ((2 * h - g) * a + g * c) + f * n) er in
    ap (λ n. (2 * n + whole) / (2 * whole)) sum_is ∙ ap (λ n. (2 * weighted w h f g a b c d + n) / (2 * n)) whole_is

-- and it is a byte
pub component_fits : (w h sum : ℕ) → 1 ≤ w → 1 ≤ h → sum ≤ 2 * w * (2 * h * 255) → Fits w8 ((2 * sum + 2 * w * (2 * h)) / (2 * (2 * w * (2 * h))))
component_fits w h sum a b l =
    let same : (2 * sum + 2 * w * (2 * h)) / (2 * (2 * w * (2 * h))) ≡ rounded w h sum = ap (λ n. (2 * sum + n) / (2 * n)) (four_times w h) in
    let small : (2 * sum + 2 * w * (2 * h)) / (2 * (2 * w * (2 * h))) < 256 = subst (λ n. n < 256) (sym same) (rounded_byte w h sum a b l) in
    omega (arith, small)
