-- The lines behind the head: calls with their answers, and what windows show.
use Rattle.std.specs.Prelude.{ℕ, ◌+◌, Bool, ◌&&◌, ◌==◌, nat_le, nat_lt, ℤ, pos, List, [], ◌∷◌, ◌++◌, length, codes, is_some, if◌then◌else◌, Option, Result, Ok, Err, None, Some}
use Rattle.std.specs.Str.{bytes_eq}
use Rattle.egl_calls.specs.declared.kinds.Kind.{Kind}
use Rattle.surface_store.specs.declared.windows.WindowSpec.{WindowSpec}
use Rattle.trace_reader.specs.declared.traces.Line.{Line}
use Rattle.trace_reader.specs.declared.traces.Reason.TheVariants.{Window, Argument, Limit}
use Rattle.trace_reader.specs.Words.{word_at}
use Rattle.trace_reader.specs.Numerals.{numeral}
use Rattle.trace_reader.specs.Assigned.{with_assigned}
use Rattle.trace_reader.specs.Body.{target_of, thread_of, within_limits}
use Rattle.trace_reader.specs.Heads.{window_with}
use Rattle.trace_reader.specs.Payloads.{payload_bytes}
use Rattle.trace_reader.specs.Pixels.{most_pixel_bytes, pixel_bytes, shown_bytes}
use Rattle.log_reader.specs.declared.answers.Answer.{Answer}
use Rattle.log_reader.specs.declared.items.Item.{Item}
use Rattle.log_reader.specs.declared.items.Item.TheVariants.{Call, Front}
use Rattle.log_reader.specs.declared.items.Shown.{Shown}
use Rattle.log_reader.specs.declared.reasons.LogReason.{LogReason}
use Rattle.log_reader.specs.declared.reasons.LogReason.TheVariants.{Trace}
use Rattle.log_reader.specs.Reasons.{◌>>=◌, as_in_traces, or_answer, provided}
use Rattle.log_reader.specs.Answers.{answer_bytes, answer_in, answer_words, call_words, nothing_said}
use Rattle.log_reader.specs.Forms.{needs_no_answer}
use Rattle.log_reader.specs.Heads.{LogHead}
use Rattle.log_reader.specs.Lines.{line_of}

-- what was read behind the head: the variables that calls assign, how many bytes of pixels are asked for, how many bytes the payloads have, and the items
pub record BodyValue : Type 0 where
  pub names : List (List ℕ)
  pub pixels : ℕ
  pub payloads : ℕ
  pub items : List Item

abbrev pub empty : BodyValue
empty = record { names = []; pixels = 0; payloads = 0; items = [] }

-- how many items a log may have: calls, and fronts
abbrev pub most_items : ℕ
most_items = 100000

-- ---- front THREAD ID BYTES.
abbrev pub is_front : List (List ℕ) → Bool
is_front ws = bytes_eq (word_at ws 0) (codes "front")

-- the id of a window that is declared
abbrev pub declared : List WindowSpec → Option ℕ → Result ℤ LogReason
declared windows None = Err (Trace Window)
declared windows (Some n) = provided (is_some (window_with windows (pos n))) (Trace Window) (Ok (pos n))

unfoldable pub window_in : List WindowSpec → List ℕ → Result ℤ LogReason
window_in windows w = declared windows (numeral 2147483647 w)

abbrev pub words_shown : ℕ → List WindowSpec → ℕ → List (List ℕ) → Result Shown LogReason
words_shown threads windows number ws = do
  thread ← as_in_traces (thread_of threads (word_at ws 1))
  window ← window_in windows (word_at ws 2)
  bytes ← or_answer (answer_bytes (word_at ws 3))
  Ok (record { number = number; thread = thread; window = window; bytes = bytes })

unfoldable pub shown_of : ℕ → List WindowSpec → ℕ → List (List ℕ) → Result Shown LogReason
shown_of threads windows number ws = provided (length ws == 4) (Trace Argument) (words_shown threads windows number ws)

-- a front asks for the bytes of its window
abbrev pub front_pixels : List WindowSpec → Shown → ℕ
front_pixels windows s = shown_bytes (window_with windows s.window)

abbrev pub has_room_for : List WindowSpec → BodyValue → Shown → Bool
has_room_for windows b s = nat_lt (length b.items) most_items && nat_le (b.pixels + front_pixels windows s) most_pixel_bytes

abbrev pub with_shown : List WindowSpec → BodyValue → Shown → BodyValue
with_shown windows b s = record b { pixels = b.pixels + front_pixels windows s; items = b.items ++ Front s ∷ [] }

abbrev pub placed : List WindowSpec → BodyValue → Shown → Result BodyValue LogReason
placed windows b s = provided (has_room_for windows b s) (Trace Limit) (Ok (with_shown windows b s))

-- what a front with this number makes of what was read before it
unfoldable pub front_line : LogHead → BodyValue → ℕ → List (List ℕ) → Result BodyValue LogReason
front_line h b number ws = shown_of h.head.threads h.head.windows number ws >>= placed h.head.windows b

-- ---- THREAD [$VARIABLE =] CALL ARGUMENTS => OUTCOME [VALUE [LIST [BYTES]]].
-- a call, the variable that is assigned, and the answer, if there is one
pub record CallLine : Type 0 where
  pub line : Line
  pub target : Option (List ℕ)
  pub answer : Option Answer

-- the answer of a call of a kind: nothing where it was under way when the log ended
abbrev pub answer_behind : Kind → Option (List (List ℕ)) → Result (Option Answer) LogReason
answer_behind kind None = Ok (if needs_no_answer kind then Some nothing_said else None)
answer_behind kind (Some ws) = answer_in ws >>= (λ a. Ok (Some a))

-- the call of a line with this number behind what was read, or its first defect; of an answer that is wrong too, the call's comes first
unfoldable pub call_line : LogHead → BodyValue → ℕ → List (List ℕ) → Result CallLine LogReason
call_line h b number ws = do
  line ← as_in_traces (within_limits h.head.windows (length b.items) b.pixels b.payloads (line_of h.head.threads b.names number (call_words ws)))
  answer ← answer_behind line.call.kind (answer_words ws)
  Ok (record { line = line; target = target_of (call_words ws); answer = answer })

-- a call that was answered, behind what was read
abbrev pub with_call : List WindowSpec → BodyValue → CallLine → Answer → BodyValue
with_call windows b c a = record {
  names = with_assigned b.names c.target;
  pixels = b.pixels + pixel_bytes windows c.line.call;
  payloads = b.payloads + payload_bytes c.line.call;
  items = b.items ++ Call (record { line = c.line; answer = a }) ∷ [];
}

-- what was read with a call; or the call itself, where it was under way when the log ended
pub record Taken : Type 0 where
  pub body : BodyValue
  pub pending : Option Line

abbrev pub taken : List WindowSpec → BodyValue → CallLine → Option Answer → Taken
taken windows b c (Some a) = record { body = with_call windows b c a; pending = None }
taken windows b c None = record { body = b; pending = Some c.line }

-- what a call with this number makes of what was read before it
unfoldable pub call_taken : LogHead → BodyValue → ℕ → List (List ℕ) → Result Taken LogReason
call_taken h b number ws = call_line h b number ws >>= (λ c. Ok (taken h.head.windows b c c.answer))

-- ---- crash WORD.
-- the word of a crash, where none was told before
unfoldable pub crash_in : Option (List ℕ) → List (List ℕ) → Option (List ℕ)
crash_in (Some w) ws = None
crash_in None ws = if (length ws == 2) && bytes_eq (word_at ws 0) (codes "crash") then Some (word_at ws 1) else None
