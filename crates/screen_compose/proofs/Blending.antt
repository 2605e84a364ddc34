-- What is laid over a component fits a byte.
use Rattle.std.proofs.Common.{ℕ, ◌+◌, ◌-◌, ◌*◌, ◌<◌, ◌≤◌, arith}
use native.Mathlib.Nat.{mul-le-mul_right}

pub blend_small : (s alpha c : ℕ) → s < 256 → alpha < 256 → c < 256 → s * alpha + c * (255 - alpha) ≤ 65025
blend_small s alpha c a b d =
    let p : s ≤ 255 = omega (arith, a) in
    let q : c ≤ 255 = omega (arith, d) in
    omega (arith, mul-le-mul_right alpha p, mul-le-mul_right (255 - alpha) q, b)
