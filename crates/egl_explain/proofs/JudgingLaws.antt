-- The rows of an entry that is told of beside a recording.
use Rattle.std.proofs.Common.{◌≡◌, ℕ, List, ap, ◌∙◌, sym}
use Rattle.egl_calls.specs.Calls.{CallValue}
use Rattle.egl_calls.specs.declared.entries.Entry.{Entry}
use Rattle.egl_model.specs.State.{State}
use Rattle.driver_facts.specs.Verdicts.{refusals}
use Rattle.driver_facts.specs.declared.verdicts.Refusals.{Refusals}
use Rattle.trace_reader.specs.Traces.{TraceValue}
use Rattle.trace_model.specs.Serial.{next_call}
use Rattle.trace_session.specs.Runs.{IsTurn}

-- those of the call that the thread makes next are those of the entry's call
pub rows_are_its : (t : TraceValue) (journal : List Entry) (thread : ℕ) (s s' : State) (e : Entry) (call : CallValue) (rows : Refusals) (i : IsTurn t journal thread s e s') → call ≡ next_call t.lines journal thread i.line → rows ≡ refusals s thread call → rows ≡ refusals s e.thread e.call
rows_are_its t journal thread s s' e call rows i same told = told ∙ ap (refusals s thread) same ∙ sym (ap (λ (x : Entry). refusals s x.thread x.call) i.is)
