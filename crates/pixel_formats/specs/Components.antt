-- Components as numbers of so many bits.
use Rattle.std.specs.Prelude.{ℕ, ℤ, pos, negsuc, ◌+◌, ◌-◌, ◌*◌, ◌/◌, ◌^◌, min}

-- a component of `from` bits as the nearest one of `to` bits, halves upward
abbrev pub widen : ℕ → ℕ → ℕ → ℕ
widen c from to = (2 * c * (2 ^ to - 1) + (2 ^ from - 1)) / (2 * (2 ^ from - 1))

-- a fixed-point number held between 0 and 1, where 1 is 65,536
abbrev pub clamped : ℤ → ℕ
clamped (pos n) = min n 65536
clamped (negsuc n) = 0

-- a fixed-point number, so held, as the nearest component of `bits` bits
abbrev pub clear_value : ℤ → ℕ → ℕ
clear_value c bits = (clamped c * (2 ^ bits - 1) + 32768) / 65536
