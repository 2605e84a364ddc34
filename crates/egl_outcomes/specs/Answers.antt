-- What the program says to an input: a status and a text.
use Rattle.std.specs.Prelude.{ℕ, ◌++◌, nat_lt, List, drop, if◌then◌else◌, length, slice_get, take, codes, decimal, Option, None, Some, Result, Ok, Err}
use Rattle.std.specs.Option.{option_map}
use Rattle.trace_reader.specs.declared.traces.Defect.{Defect}
use Rattle.trace_reader.specs.declared.traces.Reason.{Reason}
use Rattle.trace_reader.specs.declared.traces.Reason.TheVariants.{Limit}
use Rattle.trace_reader.specs.Grammar.{trace}
use Rattle.trace_reader.specs.Reasons.{reason_name}
use Rattle.trace_reader.specs.Traces.{TraceValue}
use Rattle.journal_text.specs.Cuts.{cut_recording}
use Rattle.journal_text.specs.Readings.{recorded}
use Rattle.journal_text.specs.declared.cuts.Cut.{Cut}
use Rattle.journal_text.specs.declared.recordings.RecordedLine.{RecordedLine}
use Rattle.egl_flow.specs.declared.responding.Answer.{Answer}
use Rattle.egl_flow.specs.declared.statuses.Status.{Status}
use Rattle.egl_flow.specs.declared.statuses.Status.TheVariants.{Ok as Fine, Differs, Malformed, TooLong}
use Rattle.trace_outcomes.specs.Histories.{histories}
use Rattle.trace_outcomes.specs.Outcomes.{outcomes}
use Rattle.trace_outcomes.specs.Recordings.{recorded_place}
use Rattle.trace_outcomes.specs.declared.listing.TheConstants.{MOST_HISTORIES}
use Rattle.egl_outcomes.specs.declared.answering.TheConstants.{MOST_THREADS, MOST_LINES}
use Rattle.egl_outcomes.specs.Texts.{outcomes_text}

-- malformed LINE REASON
unfoldable pub defect_answer : ℕ → Reason → Answer
defect_answer line reason = record { status = Malformed; text = codes "malformed " ++ decimal line ++ codes " " ++ reason_name reason ++ codes "\n" }

abbrev pub fine_answer : List ℕ → Answer
fine_answer text = record { status = Fine; text = text }

abbrev pub many_answer : Answer
many_answer = record { status = TooLong; text = codes "too many histories\n" }

-- ---- A trace.
abbrev pub listed_text : TraceValue → List ℕ
listed_text t = outcomes_text t.lines (outcomes t) (length (histories t))

-- all outcomes, where there aren't too many histories
unfoldable pub listed_answer : TraceValue → Answer
listed_answer t = if nat_lt MOST_HISTORIES (length (histories t)) then many_answer else fine_answer (listed_text t)

-- the first line past a limit
unfoldable pub past_limit : TraceValue → Option ℕ
past_limit t = if nat_lt MOST_THREADS t.threads then Some 1 else option_map (λ l. l.number) (slice_get t.lines MOST_LINES)

abbrev pub within_limits : Option ℕ → Answer → Answer
within_limits None more = more
within_limits (Some line) more = defect_answer line Limit

abbrev pub trace_answer : TraceValue → Answer
trace_answer t = within_limits (past_limit t) (listed_answer t)

-- ---- A recording behind its trace.
unfoldable pub none_text : List ℕ
none_text = codes "\nthe recording has none of them\n"

unfoldable pub place_head : List ℕ
place_head = codes "\nthe recording has outcome "

unfoldable pub place_text : ℕ → List ℕ
place_text place = place_head ++ decimal place ++ codes "\n"

abbrev pub recorded_text : Option ℕ → List ℕ
recorded_text None = none_text
recorded_text (Some place) = place_text place

abbrev pub recorded_status : Option ℕ → Status
recorded_status None = Differs
recorded_status (Some place) = Fine

abbrev pub placed_answer : List ℕ → Option ℕ → Answer
placed_answer text place = record { status = recorded_status place; text = text ++ recorded_text place }

-- all outcomes, and which of them the recording has
unfoldable pub recorded_answer : TraceValue → List RecordedLine → Answer
recorded_answer t lines = if nat_lt MOST_HISTORIES (length (histories t)) then many_answer else placed_answer (listed_text t) (recorded_place t lines)

abbrev pub recording_answer : TraceValue → Result (List RecordedLine) Defect → Answer
recording_answer t (Ok lines) = recorded_answer t lines
recording_answer t (Err d) = defect_answer d.line d.reason

abbrev pub claim_answer : TraceValue → Result (List RecordedLine) Defect → Answer
claim_answer t lines = within_limits (past_limit t) (recording_answer t lines)

-- ---- Bytes.
abbrev pub read_answer : (TraceValue → Answer) → Result TraceValue Defect → Answer
read_answer more (Ok t) = more t
read_answer more (Err d) = defect_answer d.line d.reason

abbrev pub cut_answer : List ℕ → Option Cut → Answer
cut_answer bytes None = read_answer trace_answer (trace bytes)
cut_answer bytes (Some cut) = read_answer (λ t. claim_answer t (recorded cut.line (drop cut.front bytes))) (trace (take cut.front bytes))

-- where a line `recording` stands, bytes are a trace and a recording behind it; else a trace alone
unfoldable pub answer : List ℕ → Answer
answer bytes = cut_answer bytes (cut_recording bytes)
