-- The first line of a scene.
use Rattle.std.specs.Prelude.{ℕ, zero, suc, Bool, ◌&&◌, ◌==◌, List, length, codes, Option, Result, Ok, Err, None, Some}
use Rattle.std.specs.Str.{bytes_eq}
use Rattle.trace_reader.specs.declared.traces.Reason.{Reason}
use Rattle.trace_reader.specs.declared.traces.Reason.TheVariants.{Header}
use Rattle.trace_reader.specs.Reasons.{◌>>=◌, provided}
use Rattle.trace_reader.specs.Words.{word_at}
use Rattle.trace_reader.specs.Numerals.{numeral}
use Rattle.scene_reader.specs.declared.headers.Sides.{Sides}

-- a scene has sides
abbrev pub some_side : Option ℕ → Result ℕ Reason
some_side None = Err Header
some_side (Some zero) = Err Header
some_side (Some (suc n)) = Ok (suc n)

-- from 1 to 2,048
unfoldable pub side_of : List ℕ → Result ℕ Reason
side_of w = some_side (numeral 2048 w)

abbrev pub is_header : List (List ℕ) → Bool
is_header ws = (length ws == 4) && bytes_eq (word_at ws 0) (codes "egl-scene") && bytes_eq (word_at ws 1) (codes "1")

-- the sides that the first line gives: egl-scene 1 W H
unfoldable pub header_of : List (List ℕ) → Result Sides Reason
header_of ws = provided (is_header ws) Header (do
  width ← side_of (word_at ws 2)
  height ← side_of (word_at ws 3)
  Ok (record { width = width; height = height }))
