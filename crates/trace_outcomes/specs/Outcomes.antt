-- What a history answers.
use Rattle.std.specs.Prelude.{ℕ, zero, suc, ◌+◌, Bool, true, false, not, ◌&&◌, ℤ, List, [], ◌∷◌, ◌++◌, if◌then◌else◌, codes, decimal, map, filter, find, length, slice_index_or, Option, None, Some}
use Rattle.std.specs.List.{flat_map, list_any}
use Rattle.std.specs.Ordering.{int_eq}
use Rattle.std.specs.Str.{bytes_eq}
use Rattle.egl_calls.specs.Calls.{ReplyValue}
use Rattle.egl_calls.specs.Errors.{is_done}
use Rattle.egl_calls.specs.declared.entries.Entry.{Entry}
use Rattle.egl_calls.specs.declared.kinds.Kind.{Kind}
use Rattle.egl_calls.specs.declared.kinds.Kind.TheVariants.{Egl}
use Rattle.call_table.specs.Rows.{egl_answers}
use Rattle.call_table.specs.declared.answers.AnswerSort.{AnswerSort}
use Rattle.call_table.specs.declared.answers.AnswerSort.TheVariants.{Currents, Makes}
use Rattle.trace_reader.specs.declared.traces.Line.{Line}
use Rattle.trace_reader.specs.Traces.{TraceValue}
use Rattle.trace_model.specs.Recording.{number_text, outcome_text, list_text, bytes_text}
use Rattle.trace_model.specs.Resolve.{answer_of}
use Rattle.trace_model.specs.Serial.{state_behind}
use Rattle.trace_model.specs.Stalled.{is_complete}
use Rattle.journal_text.specs.Rests.{rest_text}
use Rattle.trace_outcomes.specs.Histories.{histories}

-- ---- Handles, which are told by the line that made them.
abbrev pub is_made : AnswerSort → Bool
is_made (Makes kind) = true
is_made x = false

abbrev pub makes_handle : Kind → Bool
makes_handle (Egl k) = is_made (egl_answers k)
makes_handle k = false

-- a call that isn't refused answers a handle
abbrev pub is_handle : AnswerSort → Bool
is_handle (Makes kind) = true
is_handle (Currents kind) = true
is_handle x = false

abbrev pub answers_handle : Kind → Bool
answers_handle (Egl k) = is_handle (egl_answers k)
answers_handle k = false

-- a reply is that a call was carried out, with this value
abbrev pub is_value : ℤ → Option ReplyValue → Bool
is_value handle None = false
is_value handle (Some r) = is_done r.outcome && int_eq r.value handle

-- a line made a handle
abbrev pub made_here : List Entry → ℤ → Line → Bool
made_here journal handle l = makes_handle l.call.kind && is_value handle (answer_of journal l.thread l.number)

abbrev pub maker : List Line → List Entry → ℤ → Option Line
maker lines journal handle = find (made_here journal handle) lines

-- @LINE, or the number where no line made it
abbrev pub handle_text : ℤ → Option Line → List ℕ
handle_text handle None = number_text handle
handle_text handle (Some l) = codes "@" ++ decimal l.number

-- ---- Answers.
unfoldable pub value_text : List Line → List Entry → Kind → ReplyValue → List ℕ
value_text lines journal kind r = if answers_handle kind && is_done r.outcome then handle_text r.value (maker lines journal r.value) else number_text r.value

-- OUTCOME VALUE LIST BYTES
unfoldable pub reply_text : List Line → List Entry → Kind → ReplyValue → List ℕ
reply_text lines journal kind r = outcome_text r.outcome ++ codes " " ++ value_text lines journal kind r ++ codes " " ++ list_text r.list ++ codes " " ++ bytes_text r.bytes

abbrev pub told : List Line → List Entry → Kind → Option ReplyValue → List ℕ
told lines journal kind None = codes "none"
told lines journal kind (Some r) = reply_text lines journal kind r

-- what a line answers, behind a journal
unfoldable pub answer_text : List Line → List Entry → Line → List ℕ
answer_text lines journal l = told lines journal l.call.kind (answer_of journal l.thread l.number)

-- ---- Outcomes.
pub record OutcomeValue : Type 0 where
  -- of each line what it answers
  pub answers : List (List ℕ)
  -- what the driver holds and the windows show at the end
  pub rest : List ℕ
  -- the numbers of the lines in the order in which a history plays them
  pub order : List ℕ
  -- whether all threads are at their end
  pub complete : Bool

unfoldable pub outcome_of : TraceValue → List Entry → OutcomeValue
outcome_of t journal = record {
  answers = map (answer_text t.lines journal) t.lines;
  rest = rest_text (state_behind t journal);
  order = map (λ e. e.mark) journal;
  complete = is_complete t journal;
}

-- what outcomes are told apart by: the answers, and what there is at the end
unfoldable pub key_of : OutcomeValue → List ℕ
key_of o = flat_map (λ a. a ++ codes "\n") o.answers ++ o.rest

-- ---- Outcomes, each once.
abbrev pub is_among : List (List ℕ) → List ℕ → Bool
is_among keys key = list_any (bytes_eq key) keys

-- one more, unless it is among them
abbrev pub with_outcome : List OutcomeValue → OutcomeValue → List OutcomeValue
with_outcome found o = if is_among (map key_of found) (key_of o) then found else found ++ o ∷ []

-- and those of histories
abbrev pub with_all : TraceValue → List OutcomeValue → List (List Entry) → List OutcomeValue
with_all t found [] = found
with_all t found (journal ∷ journals) = with_all t (with_outcome found (outcome_of t journal)) journals

-- in the order in which they are met
unfoldable pub met : TraceValue → List OutcomeValue
met t = with_all t [] (histories t)

-- ---- Outcomes by how early they differ.
-- what the line at a place answers
abbrev pub answer_at : OutcomeValue → ℕ → List ℕ
answer_at o place = slice_index_or o.answers place []

-- it answers as in another outcome
abbrev pub agrees_at : OutcomeValue → ℕ → OutcomeValue → Bool
agrees_at first place o = bytes_eq (answer_at o place) (answer_at first place)

-- by so many lines from a place on: those that differ from the first outcome there, in front of those that agree
abbrev pub rising : OutcomeValue → ℕ → ℕ → List OutcomeValue → List OutcomeValue
rising first place zero others = others
rising first place (suc more) others = filter (λ o. not (agrees_at first place o)) others ++ rising first (place + 1) more (filter (agrees_at first place) others)

-- the first one, and the others rising by how early they differ from it
abbrev pub in_order : List OutcomeValue → List OutcomeValue
in_order [] = []
in_order (first ∷ others) = first ∷ rising first 0 (length first.answers) others

unfoldable pub outcomes : TraceValue → List OutcomeValue
outcomes t = in_order (met t)
