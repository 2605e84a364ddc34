-- The answers of a log: OUTCOME [VALUE [LIST [BYTES]]].
use Rattle.std.specs.Prelude.{ℕ, ◌+◌, Bool, ◌&&◌, nat_le, nat_lt, ℤ, pos, List, [], ◌∷◌, length, take, drop, codes, slice_index_or, if◌then◌else◌, Option, Result, Ok, None, Some}
use Rattle.std.specs.List.{position_or_len}
use Rattle.std.specs.Str.{bytes_eq}
use Rattle.trace_reader.specs.Words.{is_word, word_at}
use Rattle.trace_reader.specs.Lists.{is_bracketed, inside, items, with_item}
use Rattle.trace_reader.specs.Payloads.{are_byte_digits, hex_bytes}
use Rattle.log_reader.specs.declared.answers.Answer.{Answer}
use Rattle.log_reader.specs.declared.outcomes.LogOutcome.TheVariants.{Done}
use Rattle.log_reader.specs.declared.reasons.LogReason.{LogReason}
use Rattle.log_reader.specs.declared.reasons.LogReason.TheVariants.{Answer as wrong_answer}
use Rattle.log_reader.specs.Reasons.{◌>>=◌, or_answer, provided}
use Rattle.log_reader.specs.Numbers.{answer_number}
use Rattle.log_reader.specs.Outcomes.{outcome_of}

-- the numbers of all words; nothing where one isn't a number
abbrev pub answer_numbers : List (List ℕ) → Option (List ℤ)
answer_numbers [] = Some []
answer_numbers (w ∷ ws) = with_item (answer_number w) (answer_numbers ws)

-- numbers in brackets, parted by commas
unfoldable pub answer_list : List ℕ → Option (List ℤ)
answer_list w = if is_bracketed w then answer_numbers (items (inside w)) else None

-- two hexadecimal digits a byte, or - for none
unfoldable pub answer_bytes : List ℕ → Option (List ℕ)
answer_bytes w = if bytes_eq w (codes "-") then Some [] else if is_word w && are_byte_digits w then Some (hex_bytes w) else None

-- what a call answers that was carried out, and says nothing
abbrev pub nothing_said : Answer
nothing_said = record { outcome = Done; value = pos 0; list = []; bytes = [] }

-- the word at a place, and another where it is left out
abbrev pub word_or : List (List ℕ) → ℕ → List ℕ → List ℕ
word_or ws k w = slice_index_or ws k w

abbrev pub words_told : List (List ℕ) → Result Answer LogReason
words_told ws = do
  outcome ← or_answer (outcome_of (word_at ws 0))
  value ← or_answer (answer_number (word_or ws 1 (codes "0")))
  list ← or_answer (answer_list (word_or ws 2 (codes "[]")))
  bytes ← or_answer (answer_bytes (word_or ws 3 (codes "-")))
  Ok (record { outcome = outcome; value = value; list = list; bytes = bytes })

-- the answer that words tell. What is left out is 0, [], -
unfoldable pub answer_in : List (List ℕ) → Result Answer LogReason
answer_in ws = provided (nat_le (length ws) 4) wrong_answer (words_told ws)

-- ---- Where the answer begins.
abbrev pub is_arrow : List ℕ → Bool
is_arrow w = bytes_eq w (codes "=>")

-- the words in front of the first =>, or all of them
unfoldable pub call_words : List (List ℕ) → List (List ℕ)
call_words ws = take (position_or_len is_arrow ws) ws

-- the words behind it, if it is there
unfoldable pub answer_words : List (List ℕ) → Option (List (List ℕ))
answer_words ws = if nat_lt (position_or_len is_arrow ws) (length ws) then Some (drop (position_or_len is_arrow ws + 1) ws) else None
