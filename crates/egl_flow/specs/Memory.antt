-- The source and the sink in memory, as values.
use Rattle.std.specs.Prelude.{ℕ, ◌+◌, ◌-◌, ◌^◌, ℤ, pos, Bool, List, min}
use Rattle.std.specs.Ordering.{int_eq}
use Rattle.std.specs.List.{list_any}

-- the bytes to come, the calls that fail, the calls made, and the faults
pub record SourceValue : Type 0 where
  pub left : List ℕ
  pub fails : List ℤ
  pub calls : ℕ
  pub faults : ℕ

-- the bytes taken, the room left, the calls that fail, the calls made, and the faults
pub record SinkValue : Type 0 where
  pub taken : List ℕ
  pub room : ℕ
  pub fails : List ℤ
  pub calls : ℕ
  pub faults : ℕ

abbrev pub is_listed : List ℤ → ℕ → Bool
is_listed fails call = list_any (λ z. int_eq z (pos call)) fails

-- one more, up to the last value of a u64
abbrev pub raised : ℕ → ℕ
raised n = min (n + 1) (2 ^ 64 - 1)
