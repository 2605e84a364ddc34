-- What `serial` says to a trace, and what that is worth.
use Rattle.std.proofs.Common.{◌≡◌, ℕ, Bool, true, false, List, refl, sym, ◌∙◌, subst, Option, Some, Ok, inl, inr}
use Rattle.egl_flow.specs.Flow.{AtEnd, Took}
use Rattle.egl_flow.specs.declared.statuses.Status.{Status}
use Rattle.egl_flow.specs.declared.statuses.Status.TheVariants.{Ok as Fine, WriteFault, Stalled, NoMemory}
use Rattle.egl_flow.specs.Statuses.{Wrote}
use Rattle.trace_reader.specs.Traces.{TraceValue}
use Rattle.trace_reader.specs.Grammar.{trace}
use Rattle.trace_reader.specs.Order.{IsTrace}
use Rattle.egl_calls.specs.declared.entries.Entry.{Entry}
use Rattle.trace_model.specs.Serial.{state_behind, serial}
use Rattle.trace_model.specs.Stalled.{is_stalled}
use Rattle.trace_model.proofs.FollowsLaws.{serial_plays}
use Rattle.trace_model.proofs.OutcomeLaws.{not_stalled}
use Rattle.egl_cli.specs.declared.commands.Command.TheVariants.{Serial}
use Rattle.egl_cli.specs.Answers.{serial_answer, journal_answer, run_answer}
use Rattle.egl_cli.specs.Inputs.{WasRead}
use Rattle.egl_cli.specs.Says.{WhereTold, WroteIfMade, Says, Spells, IsTold, IsToldStalled, IsHeadline, IsStalledHeadline}
use Rattle.egl_cli.proofs.AnswerLaws.{serial_is}
use Rattle.egl_cli.proofs.SaysLaws.{where_told, read_whole, answered, meant, ended, wanted}

module _ (left rest : Option (List ℕ)) (source_failed : Type 0) (before after : Option (List ℕ)) (sink_failed : Type 0) where
  abbrev Promises : Status → Type 0
  Promises result = Says (Some Serial) left rest source_failed before after sink_failed result

  -- the answer to a journal was told
  says_journal : (t : TraceValue) (journal : List Entry) (stalled : Bool) (result : Status) → AtEnd rest → WhereTold left (λ b. serial_answer b ≡ journal_answer false t journal stalled) →
      Wrote before (journal_answer false t journal stalled).text after sink_failed (journal_answer false t journal stalled).status result → Promises result
  says_journal t journal false result e w (inl q) = subst Promises (sym q.0) (e, answered serial_answer left before after (journal_answer false t journal false) w q.1)
  says_journal t journal true result e w (inl q) = subst Promises (sym q.0) (e, answered serial_answer left before after (journal_answer false t journal true) w q.1)
  says_journal t journal stalled result e w (inr q) = ended left rest source_failed before after sink_failed (Some Serial) (journal_answer false t journal stalled).text result (meant (Some Serial) tt left source_failed (journal_answer false t journal stalled) w) q

  says_run : (t : TraceValue) (result : Status) → AtEnd rest → WhereTold left (λ b. serial_answer b ≡ run_answer t) → Wrote before (run_answer t).text after sink_failed (run_answer t).status result → Promises result
  unfolding run_answer
  says_run t result e w q = says_journal t (serial t) (is_stalled t (serial t) (state_behind t (serial t))) result e w q

  pub says_serial : (t : TraceValue) (bytes : List ℕ) (result : Status) → WasRead left rest bytes → trace bytes ≡ Ok t → WroteIfMade before (run_answer t).text after sink_failed (run_answer t).status result → Promises result
  says_serial t bytes result r h (inl q) = says_run t result r.ended (read_whole trace run_answer (Some Serial) serial_is left rest bytes (Ok t) r h) q
  says_serial t bytes result r h (inr q) = wanted left rest source_failed before after sink_failed (Some Serial) result q

-- ---- What statuses Ok and Stalled are worth.
module _ (b : List ℕ) (before after : Option (List ℕ)) (t : TraceValue) (spells : Spells b t) where
  recorded_by : (stalled : Bool) → is_stalled t (serial t) (state_behind t (serial t)) ≡ stalled → (journal_answer false t (serial t) stalled).status ≡ Fine → Took before (journal_answer false t (serial t) stalled).text after → IsTold false b before after
  recorded_by true h s w = absurd (let f : Stalled ≡ Fine = s in cc)
  recorded_by false h s w = ((journal_answer false t (serial t) false).text, (t, spells, (serial t, serial_plays t spells.ordered, not_stalled t h, refl)), w)

  stalled_by : (stalled : Bool) → is_stalled t (serial t) (state_behind t (serial t)) ≡ stalled → (journal_answer false t (serial t) stalled).status ≡ Stalled → Took before (journal_answer false t (serial t) stalled).text after → IsToldStalled false b before after
  stalled_by true h s w = ((journal_answer false t (serial t) true).text, (t, spells, (serial t, serial_plays t spells.ordered, h, refl)), w)
  stalled_by false h s w = absurd (let f : Fine ≡ Stalled = s in cc)

  recorded : (run_answer t).status ≡ Fine → Took before (run_answer t).text after → IsTold false b before after
  unfolding run_answer
  recorded s w = recorded_by (is_stalled t (serial t) (state_behind t (serial t))) refl s w

  recorded_stalled : (run_answer t).status ≡ Stalled → Took before (run_answer t).text after → IsToldStalled false b before after
  unfolding run_answer
  recorded_stalled s w = stalled_by (is_stalled t (serial t) (state_behind t (serial t))) refl s w

module _ (left rest before after : Option (List ℕ)) (failed : Type 0) (bytes : List ℕ) (result : Status) (r : WasRead left rest bytes) (t : TraceValue) (h : trace bytes ≡ Ok t) (traced : IsTrace t) where
  pub headline_serial : WroteIfMade before (run_answer t).text after failed (run_answer t).status result → result ≡ Fine → IsHeadline (Some Serial) left rest before after
  headline_serial (inl (inl q)) s = (r.ended, where_told (λ b. IsTold false b before after) left rest bytes r (recorded bytes before after t (record { within = r.within; spelt = h; ordered = traced }) (sym q.0 ∙ s) q.1))
  headline_serial (inl (inr q)) s = absurd (let f : WriteFault ≡ Fine = sym q.0 ∙ s in cc)
  headline_serial (inr q) s = absurd (let f : NoMemory ≡ Fine = sym q.0 ∙ s in cc)

  pub stalled_serial : WroteIfMade before (run_answer t).text after failed (run_answer t).status result → result ≡ Stalled → IsStalledHeadline (Some Serial) left rest before after
  stalled_serial (inl (inl q)) s = (r.ended, where_told (λ b. IsToldStalled false b before after) left rest bytes r (recorded_stalled bytes before after t (record { within = r.within; spelt = h; ordered = traced }) (sym q.0 ∙ s) q.1))
  stalled_serial (inl (inr q)) s = absurd (let f : WriteFault ≡ Stalled = sym q.0 ∙ s in cc)
  stalled_serial (inr q) s = absurd (let f : NoMemory ≡ Stalled = sym q.0 ∙ s in cc)
