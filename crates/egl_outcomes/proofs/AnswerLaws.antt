-- What is said of a trace and of a recording, by what is listed.
use Rattle.std.proofs.Common.{◌≡◌, ℕ, ◌<◌, ◌≤◌, ◌++◌, Bool, false, length, sym, ap, ◌∙◌, arith, List, Option}
use Rattle.std.proofs.lemmas.Bool.{lt-ltb}
use Rattle.std.proofs.lemmas.Bool.Decides.{nat_tests}
use Rattle.std.specs.Prelude.{nat_lt, if◌then◌else◌}
use Rattle.trace_reader.specs.Traces.{TraceValue}
use Rattle.journal_text.specs.declared.recordings.RecordedLine.{RecordedLine}
use Rattle.egl_flow.specs.declared.statuses.Status.{Status}
use Rattle.trace_outcomes.specs.Histories.{histories}
use Rattle.trace_outcomes.specs.Outcomes.{OutcomeValue, outcomes}
use Rattle.trace_outcomes.specs.Recordings.{recorded_place}
use Rattle.trace_outcomes.specs.declared.listing.TheConstants.{MOST_HISTORIES}
use Rattle.egl_outcomes.specs.Answers.{fine_answer, listed_answer, listed_text, many_answer, placed_answer, recorded_answer, recorded_status, recorded_text}
use Rattle.egl_outcomes.specs.Texts.{outcomes_text}

pub text_listed : (t : TraceValue) (found : List OutcomeValue) (count : ℕ) → found ≡ outcomes t → count ≡ length (histories t) → outcomes_text t.lines found count ≡ listed_text t
text_listed t found count f n =
    ap (λ (os : List OutcomeValue). outcomes_text t.lines os count) f
    ∙ ap (outcomes_text t.lines (outcomes t)) n

few_is : (t : TraceValue) → length (histories t) ≤ MOST_HISTORIES → nat_lt MOST_HISTORIES (length (histories t)) ≡ false
few_is t few = grind (arith, nat_tests, few)

pub listed_few : (t : TraceValue) → length (histories t) ≤ MOST_HISTORIES → fine_answer (listed_text t) ≡ listed_answer t
unfolding listed_answer
listed_few t few = sym (ap (λ (b : Bool). if b then many_answer else fine_answer (listed_text t)) (few_is t few))

pub listed_many : (t : TraceValue) → MOST_HISTORIES < length (histories t) → many_answer ≡ listed_answer t
unfolding listed_answer
listed_many t lt = sym (ap (λ (b : Bool). if b then many_answer else fine_answer (listed_text t)) (lt-ltb MOST_HISTORIES (length (histories t)) lt))

pub placed_few : (t : TraceValue) (lines : List RecordedLine) (place : Option ℕ) (text : List ℕ) (status : Status) → place ≡ recorded_place t lines → text ≡ listed_text t ++ recorded_text place → status ≡ recorded_status place → length (histories t) ≤ MOST_HISTORIES → record { text = text; status = status } ≡ recorded_answer t lines
unfolding recorded_answer
placed_few t lines place text status p x s few =
    let said : record { text = text; status = status } ≡ placed_answer (listed_text t) place = λ i. record { text = x i; status = s i } in
    said
    ∙ ap (placed_answer (listed_text t)) p
    ∙ sym (ap (λ (b : Bool). if b then many_answer else placed_answer (listed_text t) (recorded_place t lines)) (few_is t few))

pub placed_many : (t : TraceValue) (lines : List RecordedLine) → MOST_HISTORIES < length (histories t) → many_answer ≡ recorded_answer t lines
unfolding recorded_answer
placed_many t lines lt = sym (ap (λ (b : Bool). if b then many_answer else placed_answer (listed_text t) (recorded_place t lines)) (lt-ltb MOST_HISTORIES (length (histories t)) lt))
