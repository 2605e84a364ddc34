-- The bytes of a buffer.
use Rattle.std.specs.Prelude.{ℕ, ◌+◌, ◌-◌, List, [], ◌++◌, length, take, drop, replicate}
use Rattle.std.specs.declared.option.Option.{Option}
use Rattle.std.specs.declared.option.Option.TheVariants.{None, Some}

-- the bytes that a call gives; the null pointer gives none
abbrev pub given : Option (List ℕ) → List ℕ
given (Some bytes) = bytes
given None = []

-- so many bytes: those that are given, as far as there is room, and then zeros
abbrev pub filled : ℕ → List ℕ → List ℕ
filled size bytes = take size bytes ++ replicate (size - length bytes) 0

-- bytes over those that stand from a place on, as far as there are any; all others stay
unfoldable pub written : ℕ → List ℕ → List ℕ → List ℕ
written from new old = take (length old) (take from old ++ new ++ drop (from + length new) old)
