-- What each line can answer.
use Rattle.std.specs.Prelude.{ℕ, ◌+◌, nat_lt, Bool, List, [], ◌∷◌, ◌++◌, if◌then◌else◌, fold, length}
use Rattle.trace_reader.specs.declared.traces.Line.{Line}
use Rattle.trace_outcomes.specs.Outcomes.{OutcomeValue, answer_at, is_among}

-- one text more, unless it is among them
abbrev pub with_text : List (List ℕ) → List ℕ → List (List ℕ)
with_text texts x = if is_among texts x then texts else texts ++ x ∷ []

-- all that the line at a place answers, in the order of the outcomes
abbrev pub answers_at : List OutcomeValue → ℕ → List (List ℕ)
answers_at found place = fold (λ texts o. with_text texts (answer_at o place)) [] found

-- all that there is at the end
abbrev pub rests_of : List OutcomeValue → List (List ℕ)
rests_of found = fold (λ texts o. with_text texts o.rest) [] found

-- a line, and all its answers
pub record ColumnValue : Type 0 where
  pub number : ℕ
  pub answers : List (List ℕ)

abbrev pub column_at : List OutcomeValue → ℕ → Line → ColumnValue
column_at found place l = record { number = l.number; answers = answers_at found place }

-- those of lines from a place on
abbrev pub columns : List OutcomeValue → ℕ → List Line → List ColumnValue
columns found place [] = []
columns found place (l ∷ ls) = column_at found place l ∷ columns found (place + 1) ls

-- more than one text
abbrev pub are_several : List (List ℕ) → Bool
are_several texts = nat_lt 1 (length texts)
