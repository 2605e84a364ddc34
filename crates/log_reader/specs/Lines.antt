-- The calls of a log's lines.
use Rattle.std.specs.Prelude.{ℕ, Bool, true, not, ◌&&◌, nat_le, List, is_none, length, Option, Result, Ok, None, Some}
use Rattle.std.specs.List.{list_any}
use Rattle.egl_calls.specs.Calls.{CallValue}
use Rattle.call_table.specs.declared.forms.Form.{Form}
use Rattle.trace_reader.specs.declared.traces.Line.{Line}
use Rattle.trace_reader.specs.declared.traces.Reason.{Reason}
use Rattle.trace_reader.specs.declared.traces.Reason.TheVariants.{Name, Argument, Variable, Limit}
use Rattle.trace_reader.specs.Reasons.{◌>>=◌, or_reason, provided}
use Rattle.trace_reader.specs.Words.{word_at}
use Rattle.trace_reader.specs.CallNames.{Signature}
use Rattle.trace_reader.specs.Variables.{is_variable, variable_in}
use Rattle.trace_reader.specs.Arguments.{are_known, call_of, has_unknown_name, references}
use Rattle.trace_reader.specs.Body.{argument_words, assigned, call_word, signature_in, target_of, thread_of}
use Rattle.trace_reader.specs.Payloads.{most_line_payload, payload_bytes}
use Rattle.log_reader.specs.Forms.{in_log, is_in_logs}

-- the call that a word names, as a log has it, where no word among the arguments is or lists an unknown name
unfoldable pub log_signature : List ℕ → List (List ℕ) → Result Signature Reason
log_signature call arguments = do
  signature ← signature_in call arguments
  provided (is_in_logs signature.kind) Name (Ok (in_log signature))

-- nothing is assigned, or a variable that is none of these
abbrev pub is_new : List (List ℕ) → Option (List ℕ) → Bool
is_new names None = true
is_new names (Some w) = is_variable w && is_none (variable_in names w)

-- the line of a call whose arguments have its forms, or its first defect
abbrev pub line_with : List (List ℕ) → ℕ → ℕ → Option (List ℕ) → List Form → List (List ℕ) → CallValue → Result Line Reason
line_with names number thread target forms arguments call =
    provided (is_new names target) Variable (
    provided (are_known names forms arguments) Variable (
    provided (nat_le (payload_bytes call) most_line_payload) Limit (
    Ok (record { number = number; thread = thread; assigns = assigned (length names) target; call = call; uses = references names 0 forms arguments }))))

unfoldable pub line_in : List (List ℕ) → ℕ → ℕ → Signature → Option (List ℕ) → List (List ℕ) → Result Line Reason
line_in names number thread signature target arguments = do
  call ← or_reason (call_of signature.kind signature.forms arguments) Argument
  line_with names number thread target signature.forms arguments call

-- the line of a call that is known, where no word among the arguments is or lists an unknown name
abbrev pub log_line_in : List (List ℕ) → ℕ → ℕ → Signature → Option (List ℕ) → List (List ℕ) → Result Line Reason
log_line_in names number thread signature target arguments = provided (not (list_any has_unknown_name arguments)) Name (line_in names number thread signature target arguments)

-- the call of these words with this number, behind lines that assign these variables; or its first defect. It may use those alone
unfoldable pub line_of : ℕ → List (List ℕ) → ℕ → List (List ℕ) → Result Line Reason
line_of threads names number ws = do
  thread ← thread_of threads (word_at ws 0)
  signature ← log_signature (call_word ws) (argument_words ws)
  line_in names number thread signature (target_of ws) (argument_words ws)
