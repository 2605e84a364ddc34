-- What `races` says to a trace, and what that is worth.
use Rattle.std.proofs.Common.{◌≡◌, ℕ, Bool, true, false, List, refl, sym, ap, ◌∙◌, subst, Option, None, Some, Result, Ok, Err, inl, inr}
use Rattle.std.specs.Prelude.{◌⊎◌, nat_le, if◌then◌else◌}
use Rattle.egl_flow.specs.Flow.{Took}
use Rattle.egl_flow.specs.declared.statuses.Status.{Status}
use Rattle.egl_flow.specs.declared.statuses.Status.TheVariants.{Ok as Fine, WriteFault, Stalled, NoMemory}
use Rattle.egl_flow.specs.Inputs.{read_fault_text}
use Rattle.egl_flow.specs.Statuses.{Wrote}
use Rattle.egl_calls.specs.declared.entries.Entry.{Entry}
use Rattle.egl_model.specs.State.{State}
use Rattle.trace_reader.specs.declared.traces.Defect.{Defect}
use Rattle.trace_reader.specs.Traces.{TraceValue}
use Rattle.trace_reader.specs.Grammar.{trace}
use Rattle.trace_reader.specs.Order.{IsTrace}
use Rattle.trace_model.specs.Serial.{state_behind, serial}
use Rattle.trace_model.specs.Stalled.{is_stalled, IsComplete, IsStalled}
use Rattle.trace_model.proofs.FollowsLaws.{serial_plays}
use Rattle.trace_model.proofs.OutcomeLaws.{not_stalled}
use Rattle.trace_session.specs.Runs.{IsRun}
use Rattle.race_report.specs.declared.reports.Pair.{Pair}
use Rattle.race_report.specs.Replays.{AreRacesOf}
use Rattle.egl_cli.specs.declared.answers.Answer.{Answer}
use Rattle.egl_cli.specs.declared.commands.Command.TheVariants.{Races}
use Rattle.egl_cli.specs.Answers.{answer_or_defect, journal_races, races_answer, run_answer, unreported, with_stalled, IsJournalRaces, IsRacesAnswer}
use Rattle.egl_cli.specs.RaceLines.{races_text}
use Rattle.egl_cli.specs.BodyLines.{limited, line_past, most_raced, short_trace}
use Rattle.egl_cli.specs.Inputs.{WasRead}
use Rattle.egl_cli.specs.Says.{AnswersRaces, AreRacesTold, AreRacesToldStalled, IsHeadline, IsRacesText, IsStalledHeadline, Says, Spells, WroteRaces, WroteReport}
use Rattle.egl_cli.proofs.SaysLaws.{ended, wanted, where_told, within}
use Rattle.egl_cli.proofs.StalledLaws.{answer_by, never_stalls}

-- ---- A trace with few lines is one.
refused : (here : Bool) (d x : Defect) (t : TraceValue) → (if here then Err d else Err x) ≡ Ok t → ⊥
refused true d x t e = let f : Err d ≡ Ok t = e in cc
refused false d x t e = let f : Err x ≡ Ok t = e in cc

limited_of : (past : Option ℕ) (read : Result TraceValue Defect) (t : TraceValue) → limited past read ≡ Ok t → read ≡ Ok t
limited_of None read t e = e
limited_of (Some n) (Ok x) t e = absurd (let f : limited (Some n) (Ok x) ≡ Ok t = e in cc)
limited_of (Some n) (Err d) t e = absurd (refused (nat_le d.line n) d _ t e)

short_is_one : (b : List ℕ) (t : TraceValue) → short_trace b ≡ Ok t → trace b ≡ Ok t
unfolding short_trace
short_is_one b t e = limited_of (line_past most_raced b) (trace b) t e

-- ---- The answer to a run that came to its end, and to one that stalled.
pub told_races : (t : TraceValue) (entries : List Entry) (pairs : List Pair) (text : List ℕ) (stalled : Bool) (a : Answer) → AreRacesOf t entries pairs → text ≡ races_text entries pairs → a ≡ with_stalled text t entries stalled → IsJournalRaces t entries stalled a
told_races t entries pairs text stalled a all e f = (pairs, all, f ∙ ap (λ (x : List ℕ). with_stalled x t entries stalled) e)

module _ (t : TraceValue) (entries : List Entry) (s : State) (r : IsRun t entries s) (a : Answer) where
  pub races_ended : IsComplete t (serial t) → IsJournalRaces t entries false a → IsRacesAnswer t a
  races_ended c k =
      subst (λ (b : Bool). IsJournalRaces t (serial t) b a) (sym (never_stalls t (serial t) (state_behind t (serial t)) c))
      (subst (λ (es : List Entry). IsJournalRaces t es false a) r.journal k)

  pub races_stalled : IsStalled t (serial t) → IsJournalRaces t entries true a → IsRacesAnswer t a
  races_stalled h k =
      subst (λ (b : Bool). IsJournalRaces t (serial t) b a) (sym h)
      (subst (λ (es : List Entry). IsJournalRaces t es true a) r.journal k)

-- the status is that of `serial`
status_by : (t : TraceValue) (pairs : List Pair) (stalled : Bool) → is_stalled t (serial t) (state_behind t (serial t)) ≡ stalled → (run_answer t).status ≡ (journal_races t (serial t) pairs stalled).status
status_by t pairs false e = ap (λ (a : Answer). a.status) (answer_by t false e)
status_by t pairs true e = ap (λ (a : Answer). a.status) (answer_by t true e)

-- ---- What each status promises.
module _ (left rest : Option (List ℕ)) (source_failed : Type 0) (before after : Option (List ℕ)) (sink_failed : Type 0) (t : TraceValue) (bytes : List ℕ) (r : WasRead left rest bytes) (spelt : short_trace bytes ≡ Ok t) where
  abbrev Promises : Status → Type 0
  Promises result = Says (Some Races) left rest source_failed before after sink_failed result

  status_is : (races_answer bytes).status ≡ (run_answer t).status
  unfolding races_answer
  status_is = ap (λ (a : Answer). a.status) (within bytes (answer_or_defect unreported (short_trace bytes)) r.within ∙ ap (answer_or_defect unreported) spelt)

  module _ (pairs : List Pair) (all : AreRacesOf t (serial t) pairs) where
    answers_by : (stalled : Bool) → is_stalled t (serial t) (state_behind t (serial t)) ≡ stalled → AnswersRaces bytes (journal_races t (serial t) pairs stalled)
    answers_by stalled e = (t, r.within, spelt, (pairs, all, ap (journal_races t (serial t) pairs) (sym e)))

    told_by : (stalled : Bool) → is_stalled t (serial t) (state_behind t (serial t)) ≡ stalled → Took before (journal_races t (serial t) pairs stalled).text after → WroteReport bytes before after (journal_races t (serial t) pairs stalled).status
    told_by stalled e took = (status_is ∙ status_by t pairs stalled e, (journal_races t (serial t) pairs stalled, answers_by stalled e, (refl, took)))

    says_by : (stalled : Bool) (result : Status) → is_stalled t (serial t) (state_behind t (serial t)) ≡ stalled → Wrote before (journal_races t (serial t) pairs stalled).text after sink_failed (journal_races t (serial t) pairs stalled).status result → Promises result
    says_by false result e (inl q) = subst Promises (sym q.0) (r.ended, where_told (λ b. WroteReport b before after Fine) left rest bytes r (told_by false e q.1))
    says_by true result e (inl q) = subst Promises (sym q.0) (r.ended, where_told (λ b. WroteReport b before after Stalled) left rest bytes r (told_by true e q.1))
    says_by stalled result e (inr q) =
        let a : Answer = journal_races t (serial t) pairs stalled in
        let P : List ℕ → Type 0 = λ b. IsRacesText b a.text ⊎ ((a.text ≡ read_fault_text) × source_failed) in
        ended left rest source_failed before after sink_failed (Some Races) a.text result (where_told P left rest bytes r (inl (inr (a, answers_by stalled e, refl)))) q

  pub says_races : (result : Status) → WroteRaces t before after sink_failed result → Promises result
  says_races result (inl q) =
      says_by q.1.0 q.1.1 (is_stalled t (serial t) (state_behind t (serial t))) result refl (subst (λ (a : Answer). Wrote before a.text after sink_failed a.status result) q.1.2 q.2)
  says_races result (inr q) = wanted left rest source_failed before after sink_failed (Some Races) result q

-- ---- What statuses Ok and Stalled are worth.
module _ (b : List ℕ) (before after : Option (List ℕ)) (t : TraceValue) (spelt : Spells b t) (traced : IsTrace t) (pairs : List Pair) (all : AreRacesOf t (serial t) pairs) where
  ended_by : (stalled : Bool) → is_stalled t (serial t) (state_behind t (serial t)) ≡ stalled → (journal_races t (serial t) pairs stalled).status ≡ Fine → Took before (journal_races t (serial t) pairs stalled).text after → AreRacesTold b before after
  ended_by true e s took = absurd (let f : Stalled ≡ Fine = s in cc)
  ended_by false e s took = (t, spelt, (serial t, serial_plays t traced, not_stalled t e, (pairs, all, took)))

  stuck_by : (stalled : Bool) → is_stalled t (serial t) (state_behind t (serial t)) ≡ stalled → (journal_races t (serial t) pairs stalled).status ≡ Stalled → Took before (journal_races t (serial t) pairs stalled).text after → AreRacesToldStalled b before after
  stuck_by true e s took = (t, spelt, (serial t, serial_plays t traced, e, (pairs, all, took)))
  stuck_by false e s took = absurd (let f : Fine ≡ Stalled = s in cc)

module _ (left rest before after : Option (List ℕ)) (failed : Type 0) (bytes : List ℕ) (result : Status) (r : WasRead left rest bytes) (t : TraceValue) (spelt : short_trace bytes ≡ Ok t) (traced : IsTrace t) where
  abbrev Written : Answer → Type 0
  Written a = Wrote before a.text after failed a.status result

  headline_by : (pairs : List Pair) → AreRacesOf t (serial t) pairs → Written (journal_races t (serial t) pairs (is_stalled t (serial t) (state_behind t (serial t)))) → result ≡ Fine → IsHeadline (Some Races) left rest before after
  headline_by pairs all (inl q) s = (r.ended, where_told (λ b. AreRacesTold b before after) left rest bytes r (ended_by bytes before after t (record { within = r.within; spelt = short_is_one bytes t spelt; ordered = traced }) traced pairs all (is_stalled t (serial t) (state_behind t (serial t))) refl (sym q.0 ∙ s) q.1))
  headline_by pairs all (inr q) s = absurd (let f : WriteFault ≡ Fine = sym q.0 ∙ s in cc)

  stalled_by : (pairs : List Pair) → AreRacesOf t (serial t) pairs → Written (journal_races t (serial t) pairs (is_stalled t (serial t) (state_behind t (serial t)))) → result ≡ Stalled → IsStalledHeadline (Some Races) left rest before after
  stalled_by pairs all (inl q) s = (r.ended, where_told (λ b. AreRacesToldStalled b before after) left rest bytes r (stuck_by bytes before after t (record { within = r.within; spelt = short_is_one bytes t spelt; ordered = traced }) traced pairs all (is_stalled t (serial t) (state_behind t (serial t))) refl (sym q.0 ∙ s) q.1))
  stalled_by pairs all (inr q) s = absurd (let f : WriteFault ≡ Stalled = sym q.0 ∙ s in cc)

  pub headline_races : WroteRaces t before after failed result → result ≡ Fine → IsHeadline (Some Races) left rest before after
  headline_races (inl q) s = headline_by q.1.0 q.1.1 (subst Written q.1.2 q.2) s
  headline_races (inr q) s = absurd (let f : NoMemory ≡ Fine = sym q.0 ∙ s in cc)

  pub stalled_headline_races : WroteRaces t before after failed result → result ≡ Stalled → IsStalledHeadline (Some Races) left rest before after
  stalled_headline_races (inl q) s = stalled_by q.1.0 q.1.1 (subst Written q.1.2 q.2) s
  stalled_headline_races (inr q) s = absurd (let f : NoMemory ≡ Stalled = sym q.0 ∙ s in cc)
