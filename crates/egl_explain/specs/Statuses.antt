-- The status of what is told, by the bytes of the input.
use Rattle.std.specs.Prelude.{ℕ, Bool, true, false, List, take, drop, Option, None, Some, Result, Ok as Spelt, Err}
use Rattle.egl_flow.specs.declared.statuses.Status.{Status}
use Rattle.egl_flow.specs.declared.statuses.Status.TheVariants.{Ok, Malformed, Stalled, Differs}
use Rattle.trace_reader.specs.declared.traces.Defect.{Defect}
use Rattle.trace_reader.specs.Traces.{TraceValue}
use Rattle.trace_reader.specs.Grammar.{trace}
use Rattle.trace_model.specs.Serial.{serial, state_behind}
use Rattle.trace_model.specs.Stalled.{is_stalled}
use Rattle.journal_text.specs.Cuts.{cut_recording}
use Rattle.journal_text.specs.Readings.{recorded}
use Rattle.journal_text.specs.declared.cuts.Cut.{Cut}
use Rattle.journal_text.specs.declared.recordings.RecordedLine.{RecordedLine}
use Rattle.trace_check.specs.Verdicts.{verdict}
use Rattle.trace_check.specs.declared.verdicts.Verdict.{Verdict}
use Rattle.trace_check.specs.declared.verdicts.Verdict.TheVariants.{Holds, Differs as DiffersAt, Incomplete}

abbrev pub stalled_status : Bool → Status
stalled_status true = Stalled
stalled_status false = Ok

-- of a trace that is played by turns
unfoldable pub run_status : TraceValue → Status
run_status t = stalled_status (is_stalled t (serial t) (state_behind t (serial t)))

abbrev pub verdict_status : Verdict → Status
verdict_status Holds = Ok
verdict_status (DiffersAt place expected found) = Differs
verdict_status (Incomplete thread line) = Differs

-- that of what bytes spell, or of their first defect
abbrev pub status_or_defect : {A : Type 0} → (A → Status) → Result A Defect → Status
status_or_defect status (Spelt x) = status x
status_or_defect status (Err d) = Malformed

-- of a recording that is read behind its trace
abbrev pub recorded_status : TraceValue → Result (List RecordedLine) Defect → Status
recorded_status t lines = status_or_defect (λ ls. verdict_status (verdict t ls)) lines

abbrev pub cut_status : List ℕ → Option Cut → Status
cut_status b (Some cut) = status_or_defect (λ t. recorded_status t (recorded cut.line (drop cut.front b))) (trace (take cut.front b))
cut_status b None = status_or_defect run_status (trace b)

-- where a line `recording` stands, bytes are a trace and a recording behind it; else a trace alone
unfoldable pub status_of : List ℕ → Status
status_of b = cut_status b (cut_recording b)
