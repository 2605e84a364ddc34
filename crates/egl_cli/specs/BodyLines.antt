-- Traces whose body has few lines.
use Rattle.std.specs.Prelude.{ℕ, ◌+◌, Bool, not, ◌&&◌, ◌||◌, nat_le, List, [], ◌∷◌, if◌then◌else◌, drop, slice_get, codes, Option, None, Some, Result, Ok, Err}
use Rattle.std.specs.Str.{bytes_eq}
use Rattle.std.specs.Str.Lines.{lines}
use Rattle.trace_reader.specs.declared.traces.Defect.{Defect}
use Rattle.trace_reader.specs.declared.traces.Reason.TheVariants.{Limit}
use Rattle.trace_reader.specs.Traces.{TraceValue}
use Rattle.trace_reader.specs.Words.{words, word_at, is_skipped}
use Rattle.trace_reader.specs.Grammar.{trace}

-- how many body lines a trace may have whose races are asked for
abbrev pub most_raced : ℕ
most_raced = 2000

-- the line of the bytes, or that of a window
abbrev pub declares : List ℕ → Bool
declares word = bytes_eq word (codes "video") || bytes_eq word (codes "window")

-- a line behind the header that says something and declares nothing; it is one of the body, and where none in front of it has a defect, so is each line behind it that says something
abbrev pub is_body_line : List ℕ → Bool
is_body_line line = not (is_skipped line) && not (declares (word_at (words line) 0))

-- the numbers of those among lines, of which the first has this number
abbrev pub body_numbers : ℕ → List (List ℕ) → List ℕ
body_numbers n [] = []
body_numbers n (line ∷ rest) = if is_body_line line then n ∷ body_numbers (n + 1) rest else body_numbers (n + 1) rest

-- the number of the body line that stands behind so many; line 1 is the header
abbrev pub line_past : ℕ → List ℕ → Option ℕ
line_past most b = slice_get (body_numbers 2 (drop 1 (lines b))) most

-- the same trace or first defect, where a line past a limit has a defect too, of all in this line the last
abbrev pub limited : Option ℕ → Result TraceValue Defect → Result TraceValue Defect
limited None read = read
limited (Some n) (Ok t) = Err (record { line = n; reason = Limit })
limited (Some n) (Err d) = if nat_le d.line n then Err d else Err (record { line = n; reason = Limit })

-- the trace that the bytes spell, with at most 2,000 body lines, or the first defective line with its first defect
unfoldable pub short_trace : List ℕ → Result TraceValue Defect
short_trace b = limited (line_past most_raced b) (trace b)
