-- The outcome of a recording: that of the journal that plays the trace in the order of its entries, where it is that journal's recording but for the numbers of handles.
use Rattle.std.specs.Prelude.{◌≡◌, ℕ, ◌+◌, Bool, true, false, ◌&&◌, ◌==◌, List, [], ◌∷◌, ◌++◌, if◌then◌else◌, codes, drop, find, is_some, map, not, take, Option, None, Some}
use Rattle.std.specs.List.{prefix_len}
use Rattle.std.specs.Option.{option_map}
use Rattle.std.specs.Str.{bytes_eq}
use Rattle.egl_calls.specs.declared.entries.Entry.{Entry}
use Rattle.egl_calls.specs.declared.kinds.Kind.{Kind}
use Rattle.trace_reader.specs.declared.traces.Line.{Line}
use Rattle.trace_reader.specs.Numerals.{numeral}
use Rattle.trace_reader.specs.Traces.{TraceValue}
use Rattle.trace_reader.specs.Words.{word_at}
use Rattle.trace_model.specs.Follows.{IsPlayOf}
use Rattle.trace_model.specs.Stalled.{IsComplete}
use Rattle.journal_text.specs.Recorded.{parts}
use Rattle.journal_text.specs.Written.{line_of_entry}
use Rattle.journal_text.specs.declared.recordings.RecordedLine.{RecordedLine}
use Rattle.trace_check.specs.Recordings.{lines_recorded}
use Rattle.trace_check.specs.Verdicts.{behind_entries, entry_due, verdict}
use Rattle.trace_check.specs.declared.verdicts.Verdict.{Verdict}
use Rattle.trace_check.specs.declared.verdicts.Verdict.TheVariants.{Holds, Differs, Incomplete}
use Rattle.trace_outcomes.specs.Outcomes.{OutcomeValue, answers_handle, key_of, makes_handle, outcome_of, outcomes}
use Rattle.trace_outcomes.specs.Plays.{IsListed}

-- ---- The lines of entries, which stand in front, and those behind them.
abbrev pub entry_count : List RecordedLine → ℕ
entry_count ls = prefix_len (λ l. is_some l.thread) ls

abbrev pub entries_in : List RecordedLine → List RecordedLine
entries_in ls = take (entry_count ls) ls

abbrev pub rest_in : List RecordedLine → List RecordedLine
rest_in ls = drop (entry_count ls) ls

-- ---- Entries whose handles are told by the lines that made them.
abbrev pub line_numbered : List Line → Option ℕ → Option Line
line_numbered lines None = None
line_numbered lines (Some n) = find (λ l. l.number == n) lines

-- the line of the trace that an entry's words name
abbrev pub line_named : List Line → List (List ℕ) → Option Line
line_named lines ws = line_numbered lines (numeral 4294967295 (word_at ws 1))

abbrev pub is_of_kind : (Kind → Bool) → Option Line → Bool
is_of_kind p None = false
is_of_kind p (Some l) = p l.call.kind

-- they say that a call of such a kind was carried out
abbrev pub says_done : (Kind → Bool) → List Line → List (List ℕ) → Bool
says_done p lines ws = bytes_eq (word_at ws 2) (codes "ok") && is_of_kind p (line_named lines ws)

-- and made a handle with this number
abbrev pub says_made : List Line → List ℕ → List (List ℕ) → Bool
says_made lines handle ws = says_done makes_handle lines ws && bytes_eq (word_at ws 3) handle

-- @LINE, or the number where no entry says that it was made
abbrev pub maker_word : List ℕ → Option RecordedLine → List ℕ
maker_word handle None = handle
maker_word handle (Some l) = codes "@" ++ word_at (parts l.text) 1

abbrev pub handle_word : List Line → List RecordedLine → List ℕ → List ℕ
handle_word lines entries handle = maker_word handle (find (λ l. says_made lines handle (parts l.text)) entries)

-- THREAD LINE OUTCOME HANDLE LIST BYTES
unfoldable pub handle_line : List (List ℕ) → List ℕ → List ℕ
handle_line ws handle = word_at ws 0 ++ codes " " ++ word_at ws 1 ++ codes " " ++ word_at ws 2 ++ codes " " ++ handle ++ codes " " ++ word_at ws 4 ++ codes " " ++ word_at ws 5

abbrev pub told_words : List Line → List RecordedLine → List ℕ → List (List ℕ) → List ℕ
told_words lines entries text ws = if says_done answers_handle lines ws then handle_line ws (handle_word lines entries (word_at ws 3)) else text

abbrev pub told_line : List Line → List RecordedLine → RecordedLine → List ℕ
told_line lines entries l = told_words lines entries l.text (parts l.text)

abbrev pub told_lines : List Line → List RecordedLine → List (List ℕ)
told_lines lines entries = map (told_line lines entries) entries

-- ---- The journal in the order of the entries.
abbrev pub by_thread : Option ℕ → (ℕ → Option (List Entry)) → Option (List Entry)
by_thread None more = None
by_thread (Some thread) more = more thread

abbrev pub by_entry : Option Entry → (Entry → Option (List Entry)) → Option (List Entry)
by_entry None more = None
by_entry (Some e) more = more e

-- a journal behind the turns of the threads of these lines, where each of them can go on
abbrev pub walked : TraceValue → List Entry → List RecordedLine → Option (List Entry)
walked t journal [] = Some journal
walked t journal (l ∷ ls) = by_thread l.thread (λ thread. by_entry (entry_due t journal thread) (λ e. walked t (journal ++ e ∷ []) ls))

-- ---- The outcome.
abbrev pub are_same : List (List ℕ) → List (List ℕ) → Bool
are_same [] [] = true
are_same [] (y ∷ ys) = false
are_same (x ∷ xs) [] = false
are_same (x ∷ xs) (y ∷ ys) = bytes_eq x y && are_same xs ys

abbrev pub is_holding : Verdict → Bool
is_holding Holds = true
is_holding (Differs place expected found) = false
is_holding (Incomplete thread line) = false

-- the entries are a journal's but for the numbers of handles, and the lines behind them are those behind the journal
unfoldable pub is_recorded : TraceValue → List RecordedLine → List Entry → Bool
is_recorded t ls journal =
    are_same (told_lines t.lines (entries_in ls)) (told_lines t.lines (map line_of_entry journal))
    && is_holding (behind_entries t journal (1 + entry_count ls) (rest_in ls))

abbrev pub outcome_where : Bool → TraceValue → List Entry → Option OutcomeValue
outcome_where true t journal = Some (outcome_of t journal)
outcome_where false t journal = None

abbrev pub outcome_behind : TraceValue → List RecordedLine → Option (List Entry) → Option OutcomeValue
outcome_behind t ls None = None
outcome_behind t ls (Some journal) = outcome_where (is_recorded t ls journal) t journal

unfoldable pub recorded_outcome : TraceValue → List RecordedLine → Option OutcomeValue
recorded_outcome t ls = outcome_behind t ls (walked t [] (entries_in ls))

-- the place of an outcome among others, counted from 1
unfoldable pub place_among : List OutcomeValue → OutcomeValue → ℕ
place_among found o = prefix_len (λ p. not (bytes_eq (key_of p) (key_of o))) found + 1

-- which of a trace's outcomes a recording has
unfoldable pub recorded_place : TraceValue → List RecordedLine → Option ℕ
recorded_place t ls = option_map (place_among (outcomes t)) (recorded_outcome t ls)

-- ---- Recordings that are the same but for the numbers of handles.
pub record AreAlike (t : TraceValue) (ls others : List RecordedLine) : Type 0 where
  pub threads : map (λ l. l.thread) (entries_in ls) ≡ map (λ l. l.thread) (entries_in others)
  pub entries : told_lines t.lines (entries_in ls) ≡ told_lines t.lines (entries_in others)
  pub rest : map (λ l. l.text) (rest_in ls) ≡ map (λ l. l.text) (rest_in others)

-- an outcome is that of a journal whose recording holds and is like this one, and it is listed
pub record IsRecorded (t : TraceValue) (ls : List RecordedLine) (o : OutcomeValue) : Type 0 where
  pub journal : List Entry
  pub play : IsPlayOf t journal
  pub complete : IsComplete t journal
  pub holds : verdict t (lines_recorded t journal) ≡ Holds
  pub alike : AreAlike t ls (lines_recorded t journal)
  pub outcome : outcome_of t journal ≡ o
  pub listed : IsListed t journal (outcomes t)

-- both recordings have one outcome
pub record HaveOneOutcome (t : TraceValue) (ls others : List RecordedLine) : Type 0 where
  pub outcome : OutcomeValue
  pub first : recorded_outcome t ls ≡ Some outcome
  pub second : recorded_outcome t others ≡ Some outcome
