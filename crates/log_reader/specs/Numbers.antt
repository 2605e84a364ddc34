-- The numbers of answers: handles of a driver have up to 64 bits.
use Rattle.std.specs.Prelude.{ℕ, ℤ, pos, negsuc, ◌≤ℤ◌, List, drop, if◌then◌else◌, Option}
use Rattle.std.specs.Option.{option_map, option_or}
use Rattle.egl_names.specs.Names.{code_of}
use Rattle.trace_reader.specs.Words.{begins_with}
use Rattle.trace_reader.specs.Numerals.{negated, numeral}

-- the largest number of 20 digits
abbrev pub most_long : ℕ
most_long = 99999999999999999999

-- a decimal number of at most 20 digits, which may be negative; there is no -0
unfoldable pub long_number : List ℕ → Option ℤ
long_number w = if begins_with 45 w then negated (numeral most_long (drop 1 w)) else option_map pos (numeral most_long w)

-- the code of a name, or a number in decimal, whether or not it is such a code
unfoldable pub answer_number : List ℕ → Option ℤ
answer_number w = option_or (option_map pos (code_of w)) (long_number w)

-- what each such number is
pub record IsLong (z : ℤ) : Type 0 where
  pub low : negsuc 99999999999999999998 ≤ℤ z
  pub high : z ≤ℤ pos most_long
