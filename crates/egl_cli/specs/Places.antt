-- Where an entry stands: its thread and its line.
use Rattle.std.specs.Prelude.{ℕ, List, ◌++◌, codes, decimal}

-- THREAD LINE
abbrev pub place_words : ℕ → ℕ → List ℕ
place_words thread line = decimal thread ++ codes " " ++ decimal line
