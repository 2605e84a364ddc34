-- The scene that bytes spell.
use Rattle.std.specs.Prelude.{ℕ, ◌+◌, List, [], ◌∷◌, Result, Ok, Err}
use Rattle.std.specs.Str.Lines.{lines}
use Rattle.trace_reader.specs.declared.traces.Reason.{Reason}
use Rattle.trace_reader.specs.declared.traces.Reason.TheVariants.{Header}
use Rattle.trace_reader.specs.declared.traces.Defect.{Defect}
use Rattle.trace_reader.specs.Words.{words}
use Rattle.scene_reader.specs.declared.headers.Sides.{Sides}
use Rattle.scene_reader.specs.declared.items.Item.{Item}
use Rattle.scene_reader.specs.Scenes.{SceneValue}
use Rattle.scene_reader.specs.Headers.{header_of}
use Rattle.scene_reader.specs.Lines.{line_behind}

-- what follows a line with this number: its defect, or more lines
abbrev pub line_then : ℕ → Result (List Item) Reason → (List Item → Result (List Item) Defect) → Result (List Item) Defect
line_then n (Ok items) more = more items
line_then n (Err r) more = Err (record { line = n; reason = r })

-- the items of the lines from this number on, behind those of the lines before; or the first defect
abbrev pub read_items : List Item → ℕ → List (List ℕ) → Result (List Item) Defect
read_items before n [] = Ok before
read_items before n (line ∷ rest) = line_then n (line_behind before line) (λ items. read_items items (n + 1) rest)

abbrev pub with_sides : Sides → Result (List Item) Defect → Result SceneValue Defect
with_sides sides (Ok items) = Ok (record { width = sides.width; height = sides.height; items = items })
with_sides sides (Err d) = Err d

abbrev pub behind_header : Result Sides Reason → List (List ℕ) → Result SceneValue Defect
behind_header (Ok sides) rest = with_sides sides (read_items [] 2 rest)
behind_header (Err r) rest = Err (record { line = 1; reason = r })

abbrev pub scene_of_lines : List (List ℕ) → Result SceneValue Defect
scene_of_lines [] = Err (record { line = 1; reason = Header })
scene_of_lines (first ∷ rest) = behind_header (header_of (words first)) rest

-- the scene that the bytes spell, or the first defective line with its first defect
unfoldable pub scene : List ℕ → Result SceneValue Defect
scene b = scene_of_lines (lines b)
