-- Why lines of a log are defective: tests one after another, each with the reason of what fails it, and the names of reasons.
use Rattle.std.specs.Prelude.{ℕ, Bool, List, if◌then◌else◌, codes, Option, Result, Ok, Err, None, Some}
use Rattle.trace_reader.specs.declared.traces.Reason.{Reason}
use Rattle.trace_reader.specs.Reasons.{reason_name}
use Rattle.log_reader.specs.declared.reasons.LogReason.{LogReason}
use Rattle.log_reader.specs.declared.reasons.LogReason.TheVariants.{Trace, Answer}

infixl 10 ◌>>=◌
abbrev pub ◌>>=◌ : {A B : Type 0} → Result A LogReason → (A → Result B LogReason) → Result B LogReason
(Ok x) >>= f = f x
(Err e) >>= f = Err e

-- what is read as in a trace has the reasons of traces
abbrev pub as_in_traces : {A : Type 0} → Result A Reason → Result A LogReason
as_in_traces (Ok x) = Ok x
as_in_traces (Err r) = Err (Trace r)

abbrev pub or_answer : {A : Type 0} → Option A → Result A LogReason
or_answer None = Err Answer
or_answer (Some x) = Ok x

-- where the test fails, the reason; else what follows
abbrev pub provided : {A : Type 0} → Bool → LogReason → Result A LogReason → Result A LogReason
provided b r more = if b then more else Err r

-- the word for a reason
unfoldable pub log_reason_name : LogReason → List ℕ
log_reason_name (Trace r) = reason_name r
log_reason_name Answer = codes "Answer"
