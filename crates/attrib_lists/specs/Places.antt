-- Places in a list.
use Rattle.std.specs.Prelude.{ℕ, min}

-- a place, or the last number of 32 bits past it
abbrev pub capped : ℕ → ℕ
capped place = min place 4294967295
