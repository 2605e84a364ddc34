-- The log that bytes spell.
use Rattle.std.specs.Prelude.{ℕ, ◌+◌, List, [], ◌∷◌, unwrap_or, if◌then◌else◌, Option, Result, Ok, Err, None, Some}
use Rattle.std.specs.Str.Lines.{lines}
use Rattle.trace_reader.specs.declared.traces.Line.{Line}
use Rattle.trace_reader.specs.declared.traces.Reason.{Reason}
use Rattle.trace_reader.specs.declared.traces.Reason.TheVariants.{Header}
use Rattle.trace_reader.specs.Words.{words, is_skipped}
use Rattle.trace_reader.specs.Grammar.{default_video}
use Rattle.log_reader.specs.declared.items.Item.{Item}
use Rattle.log_reader.specs.declared.items.Cut.{Cut}
use Rattle.log_reader.specs.declared.reasons.LogDefect.{LogDefect}
use Rattle.log_reader.specs.declared.reasons.LogReason.{LogReason}
use Rattle.log_reader.specs.declared.reasons.LogReason.TheVariants.{Trace, Answer}
use Rattle.log_reader.specs.Heads.{LogHead, begun, head_line, header_of}
use Rattle.log_reader.specs.Items.{BodyValue, Taken, call_taken, crash_in, empty, front_line, is_front}
use Rattle.log_reader.specs.Logs.{LogValue}

-- the line with this number is defective
abbrev pub defect : {A : Type 0} → ℕ → LogReason → Result A LogDefect
defect n r = Err (record { line = n; reason = r })

-- the log of a head and what stands behind it
abbrev pub logged : LogHead → List Item → Option Cut → LogValue
logged h items cut = record { threads = h.head.threads; video = unwrap_or h.head.video default_video; windows = h.head.windows; configs = h.configs; items = items; cut = cut }

-- ---- Behind a call that wasn't answered: fronts, and at most one crash.
abbrev pub under_way : Line → Option (List ℕ) → Cut
under_way pending word = record { line = pending; word = word }

-- what follows a front with this number
abbrev pub front_then : {A : Type 0} → ℕ → Result BodyValue LogReason → (BodyValue → Result A LogDefect) → Result A LogDefect
front_then n (Ok b) more = more b
front_then n (Err r) more = defect n r

-- what follows a line that may be a crash; where it is none the call in front of it lacks its answer
abbrev pub crash_then : {A : Type 0} → Line → Option (List ℕ) → (List ℕ → Result A LogDefect) → Result A LogDefect
crash_then pending (Some word) more = more word
crash_then pending None more = defect pending.number Answer

abbrev pub read_end : LogHead → Line → Option (List ℕ) → ℕ → BodyValue → List (List ℕ) → Result LogValue LogDefect
read_end h pending word n b [] = Ok (logged h b.items (Some (under_way pending word)))
read_end h pending word n b (line ∷ rest) =
    if is_skipped line then read_end h pending word (n + 1) b rest
    else if is_front (words line) then front_then n (front_line h b n (words line)) (λ next. read_end h pending word (n + 1) next rest)
    else crash_then pending (crash_in word (words line)) (λ said. read_end h pending (Some said) (n + 1) b rest)

-- ---- Behind the head.
-- what follows a call, which may be left open
abbrev pub pending_then : {A : Type 0} → Option Line → A → (Line → A) → A
pending_then None more end = more
pending_then (Some pending) more end = end pending

-- what follows a call with this number
abbrev pub call_then : {A : Type 0} → ℕ → Result Taken LogReason → (BodyValue → Result A LogDefect) → (BodyValue → Line → Result A LogDefect) → Result A LogDefect
call_then n (Ok t) more end = pending_then t.pending (more t.body) (end t.body)
call_then n (Err r) more end = defect n r

-- the log of a head and the lines from this number on, behind what was read; or the first defect
abbrev pub read_body : LogHead → ℕ → BodyValue → List (List ℕ) → Result LogValue LogDefect
read_body h n b [] = Ok (logged h b.items None)
read_body h n b (line ∷ rest) =
    if is_skipped line then read_body h (n + 1) b rest
    else if is_front (words line) then front_then n (front_line h b n (words line)) (λ next. read_body h (n + 1) next rest)
    else call_then n (call_taken h b n (words line)) (λ next. read_body h (n + 1) next rest) (λ next pending. read_end h pending None (n + 1) next rest)

-- ---- From the second line on.
-- what follows a line with this number: its defect, more of the head, or what stands behind it
abbrev pub head_then : ℕ → Option (Result LogHead Reason) → (LogHead → Result LogValue LogDefect) → Result LogValue LogDefect → Result LogValue LogDefect
head_then n (Some (Ok h)) more body = more h
head_then n (Some (Err r)) more body = defect n (Trace r)
head_then n None more body = body

abbrev pub read_on : LogHead → ℕ → List (List ℕ) → Result LogValue LogDefect
read_on h n [] = Ok (logged h [] None)
read_on h n (line ∷ rest) = head_then n (head_line h line) (λ next. read_on next (n + 1) rest) (read_body h n empty (line ∷ rest))

abbrev pub behind_header : Result ℕ Reason → List (List ℕ) → Result LogValue LogDefect
behind_header (Ok threads) rest = read_on (begun threads) 2 rest
behind_header (Err r) rest = defect 1 (Trace r)

abbrev pub log_of_lines : List (List ℕ) → Result LogValue LogDefect
log_of_lines [] = defect 1 (Trace Header)
log_of_lines (first ∷ rest) = behind_header (header_of (words first)) rest

-- the log that the bytes spell, or the first defective line with its first defect
unfoldable pub log : List ℕ → Result LogValue LogDefect
log b = log_of_lines (lines b)
