-- How much the programs read, and what they say where an input can't be read.
use Rattle.std.specs.Prelude.{ℕ, List, codes}

-- how many bytes an input may have
abbrev pub most_input : ℕ
most_input = 33554432

unfoldable pub read_fault_text : List ℕ
read_fault_text = codes "read fault\n"

unfoldable pub too_long_text : List ℕ
too_long_text = codes "too long\n"
