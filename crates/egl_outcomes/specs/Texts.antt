-- The text of a trace's outcomes.
use Rattle.std.specs.Prelude.{ℕ, ◌+◌, Bool, List, [], ◌∷◌, ◌++◌, if◌then◌else◌, codes, decimal, length}
use Rattle.std.specs.List.{flat_map}
use Rattle.trace_reader.specs.declared.traces.Line.{Line}
use Rattle.trace_outcomes.specs.Outcomes.{OutcomeValue, answer_at}
use Rattle.egl_outcomes.specs.Columns.{ColumnValue, are_several, columns, rests_of}

-- ---- An outcome.
-- LINE ANSWER
unfoldable pub line_text : ℕ → List ℕ → List ℕ
line_text number answer = codes "  " ++ decimal number ++ codes " " ++ answer ++ codes "\n"

-- the line at a place, where it doesn't answer the same in all outcomes
abbrev pub differing_line : OutcomeValue → ℕ → ColumnValue → List ℕ
differing_line o place c = if are_several c.answers then line_text c.number (answer_at o place) else []

-- such lines from a place on
abbrev pub differing_lines : OutcomeValue → ℕ → List ColumnValue → List ℕ
differing_lines o place [] = []
differing_lines o place (c ∷ cs) = differing_line o place c ++ differing_lines o (place + 1) cs

-- the order of a history that has it
unfoldable pub order_text : List ℕ → List ℕ
order_text order = codes "  order" ++ flat_map (λ n. codes " " ++ decimal n) order ++ codes "\n"

unfoldable pub head_text : ℕ → Bool → List ℕ
head_text place complete = codes "outcome " ++ decimal place ++ (if complete then codes "\n" else codes " stalled\n")

-- what there is at the end, where it isn't the same in all outcomes
abbrev pub rest_lines : Bool → List ℕ → List ℕ
rest_lines several rest = if several then rest ++ codes "\n" else []

unfoldable pub outcome_text : Bool → List ColumnValue → ℕ → OutcomeValue → List ℕ
outcome_text several cs place o = head_text place o.complete ++ order_text o.order ++ differing_lines o 0 cs ++ rest_lines several o.rest

-- those of outcomes that are counted from a number on
abbrev pub outcome_texts : Bool → List ColumnValue → ℕ → List OutcomeValue → List ℕ
outcome_texts several cs place [] = []
outcome_texts several cs place (o ∷ os) = outcome_text several cs place o ++ outcome_texts several cs (place + 1) os

-- ---- Each line.
abbrev pub parted : List (List ℕ) → List ℕ
parted [] = []
parted (x ∷ xs) = x ++ flat_map (λ y. codes " | " ++ y) xs

unfoldable pub column_text : ColumnValue → List ℕ
column_text c = line_text c.number (parted c.answers)

-- ---- All.
unfoldable pub heading_end : List ℕ
heading_end = codes " histories\n\n"

unfoldable pub histories_text : ℕ → List ℕ
histories_text histories = codes " of " ++ decimal histories ++ heading_end

unfoldable pub count_text : ℕ → ℕ → List ℕ
count_text count histories = codes "outcomes " ++ decimal count ++ histories_text histories

unfoldable pub outcomes_text : List Line → List OutcomeValue → ℕ → List ℕ
outcomes_text lines found histories =
    count_text (length found) histories
    ++ outcome_texts (are_several (rests_of found)) (columns found 0 lines) 1 found
    ++ codes "\neach line\n"
    ++ flat_map column_text (columns found 0 lines)
