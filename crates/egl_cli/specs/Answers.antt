-- What the program says: a status and a text, by the bytes of its input.
use Rattle.std.specs.Prelude.{◌≡◌, ◌⊎◌, ℕ, ◌+◌, nat_lt, Bool, true, false, List, [], ◌++◌, if◌then◌else◌, length, take, drop, codes, decimal, Option, None, Some, Result, Ok, Err}
use Rattle.std.specs.Str.Lines.{lines}
use Rattle.trace_reader.specs.declared.traces.Reason.{Reason}
use Rattle.trace_reader.specs.declared.traces.Reason.TheVariants.{Entry}
use Rattle.trace_reader.specs.Reasons.{reason_name}
use Rattle.trace_reader.specs.declared.traces.Defect.{Defect}
use Rattle.trace_reader.specs.Traces.{TraceValue}
use Rattle.trace_reader.specs.Grammar.{trace}
use Rattle.egl_calls.specs.declared.entries.Entry.{Entry as AnEntry}
use Rattle.egl_flow.specs.Inputs.{most_input, too_long_text}
use Rattle.egl_flow.specs.declared.statuses.Status.TheVariants.{Ok as Fine, Malformed, Stalled, TooLong, Differs}
use Rattle.trace_model.specs.Serial.{state_behind, serial}
use Rattle.trace_model.specs.Follows.{IsPlayOf}
use Rattle.trace_model.specs.Stalled.{IsComplete, IsStalled, is_stalled}
use Rattle.trace_model.specs.Recording.{recording}
use Rattle.journal_text.specs.Cuts.{cut_recording}
use Rattle.journal_text.specs.Readings.{recorded}
use Rattle.journal_text.specs.Summaries.{summary}
use Rattle.journal_text.specs.declared.cuts.Cut.{Cut}
use Rattle.journal_text.specs.declared.recordings.RecordedLine.{RecordedLine}
use Rattle.trace_check.specs.Verdicts.{verdict}
use Rattle.trace_check.specs.declared.verdicts.Verdict.{Verdict}
use Rattle.race_report.specs.declared.reports.Pair.{Pair}
use Rattle.race_report.specs.Replays.{AreRacesOf}
use Rattle.trace_check.specs.declared.verdicts.Verdict.TheVariants.{Holds, Differs as DiffersAt, Incomplete}
use Rattle.scene_reader.specs.Grammar.{scene}
use Rattle.scene_reader.specs.Scenes.{SceneValue}
use Rattle.scene_trace.specs.Lines.{scene_text}
use Rattle.egl_cli.specs.Frames.{frames_text}
use Rattle.egl_cli.specs.BodyLines.{short_trace}
use Rattle.egl_cli.specs.Places.{place_words}
use Rattle.egl_cli.specs.RaceLines.{races_text}
use Rattle.egl_cli.specs.StalledLines.{stalled_lines}
use Rattle.egl_cli.specs.declared.answers.Answer.{Answer}
use Rattle.egl_cli.specs.declared.inputs.Claim.{Claim}

unfoldable pub usage_text : List ℕ
usage_text = codes "usage: egl_cli serial | play [summary] | check | configs | gen N THREADS SEED | compose W H | scene | races\n"

-- malformed LINE REASON
unfoldable pub malformed_text : ℕ → Reason → List ℕ
malformed_text line reason = codes "malformed " ++ decimal line ++ codes " " ++ reason_name reason ++ codes "\n"

-- ---- Of a trace that is played.
-- what is told of a run: its summary, or its recording
abbrev pub told : Bool → TraceValue → List AnEntry → List ℕ
told true t journal = summary t journal
told false t journal = recording t journal

-- a text that tells of a journal, and where the run stalled, the lines at which threads wait
abbrev pub with_stalled : List ℕ → TraceValue → List AnEntry → Bool → Answer
with_stalled text t journal false = record { status = Fine; text = text }
with_stalled text t journal true = record { status = Stalled; text = text ++ stalled_lines t journal }

abbrev pub journal_answer : Bool → TraceValue → List AnEntry → Bool → Answer
journal_answer how t journal stalled = with_stalled (told how t journal) t journal stalled

-- the answer to a trace: that of its serial journal
unfoldable pub run_answer : TraceValue → Answer
run_answer t = journal_answer false t (serial t) (is_stalled t (serial t) (state_behind t (serial t)))

-- an answer of `play` to a trace: that to a journal that plays it to the end of all its threads, or until none can go on
abbrev pub IsPlayAnswer : Bool → TraceValue → Answer → Type 0
IsPlayAnswer how t a = (journal : List AnEntry) × IsPlayOf t journal × ((IsComplete t journal × (a ≡ journal_answer how t journal false)) ⊎ (IsStalled t journal × (a ≡ journal_answer how t journal true)))

-- ---- Of a trace that is played for its frames.
-- its frames on a screen of these sides
abbrev pub journal_frames : ℕ → ℕ → TraceValue → List AnEntry → Bool → Answer
journal_frames w h t journal stalled = with_stalled (frames_text w h t journal) t journal stalled

-- the frames of a trace: those of its serial journal
unfoldable pub run_frames : ℕ → ℕ → TraceValue → Answer
run_frames w h t = journal_frames w h t (serial t) (is_stalled t (serial t) (state_behind t (serial t)))

-- ---- Of a trace that is played for its races.
-- the races of its journal
abbrev pub journal_races : TraceValue → List AnEntry → List Pair → Bool → Answer
journal_races t journal pairs stalled = with_stalled (races_text journal pairs) t journal stalled

-- the answer to a journal, behind which the run stalled or didn't. There is only one: no two lists are all races
abbrev pub IsJournalRaces : TraceValue → List AnEntry → Bool → Answer → Type 0
IsJournalRaces t journal stalled a = (pairs : List Pair) × AreRacesOf t journal pairs × (a ≡ journal_races t journal pairs stalled)

-- the races of a trace: those of its serial journal
abbrev pub IsRacesAnswer : TraceValue → Answer → Type 0
IsRacesAnswer t a = IsJournalRaces t (serial t) (is_stalled t (serial t) (state_behind t (serial t))) a

-- what of that is computed from the trace: its status
abbrev pub unreported : TraceValue → Answer
unreported t = record { status = (run_answer t).status; text = [] }

-- ---- Of a scene.
-- the trace that draws it
abbrev pub drawn : SceneValue → Answer
drawn s = record { status = Fine; text = scene_text s }

-- ---- Of a recording behind its trace.
abbrev pub with_lines : TraceValue → Result (List RecordedLine) Defect → Result Claim Defect
with_lines t (Ok lines) = Ok (record { trace = t; recording = lines })
with_lines t (Err d) = Err d

abbrev pub then_lines : Result TraceValue Defect → Result (List RecordedLine) Defect → Result Claim Defect
then_lines (Ok t) lines = with_lines t lines
then_lines (Err d) lines = Err d

-- the recording begins at the first line `recording`; where there is none, it is missing behind the last line
abbrev pub claimed_at : List ℕ → Option Cut → Result Claim Defect
claimed_at b (Some cut) = then_lines (trace (take cut.front b)) (recorded cut.line (drop cut.front b))
claimed_at b None = then_lines (trace b) (Err (record { line = length (lines b) + 1; reason = Entry }))

-- the trace that the bytes spell and the recording behind it, or the first line that isn't in its form: the trace's before the recording's
unfoldable pub claimed : List ℕ → Result Claim Defect
claimed b = claimed_at b (cut_recording b)

-- differs PLACE, expected TEXT, found TEXT on three lines, or that a thread isn't at its end
abbrev pub verdict_answer : Verdict → Answer
verdict_answer Holds = record { status = Fine; text = codes "holds\n" }
verdict_answer (DiffersAt place expected found) = record { status = Differs; text = codes "differs " ++ decimal place ++ codes "\nexpected " ++ expected ++ codes "\nfound " ++ found ++ codes "\n" }
verdict_answer (Incomplete thread line) = record { status = Differs; text = codes "incomplete " ++ place_words thread line ++ codes "\n" }

unfoldable pub claim_answer : Claim → Answer
claim_answer c = verdict_answer (verdict c.trace c.recording)

-- ---- Of all bytes of the input.
-- the answer to what they spell, or their first defect
abbrev pub answer_or_defect : {A : Type 0} → (A → Answer) → Result A Defect → Answer
answer_or_defect answer (Ok x) = answer x
answer_or_defect answer (Err d) = record { status = Malformed; text = malformed_text d.line d.reason }

abbrev pub within_limit : List ℕ → Answer → Answer
within_limit b a = if nat_lt most_input (length b) then record { status = TooLong; text = too_long_text } else a

-- the answer of `serial`
unfoldable pub serial_answer : List ℕ → Answer
serial_answer b = within_limit b (answer_or_defect run_answer (trace b))

-- the answer of `compose`
unfoldable pub frames_answer : ℕ → ℕ → List ℕ → Answer
frames_answer w h b = within_limit b (answer_or_defect (run_frames w h) (trace b))

-- the answer of `races`, but for the text where the bytes spell a trace
unfoldable pub races_answer : List ℕ → Answer
races_answer b = within_limit b (answer_or_defect unreported (short_trace b))

-- the answer of `scene`
unfoldable pub scene_answer : List ℕ → Answer
scene_answer b = within_limit b (answer_or_defect drawn (scene b))

-- the answer of `check`
unfoldable pub check_answer : List ℕ → Answer
check_answer b = within_limit b (answer_or_defect claim_answer (claimed b))
