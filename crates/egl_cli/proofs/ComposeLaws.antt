-- What `compose` says to a trace, and what that is worth.
use Rattle.std.proofs.Common.{◌≡◌, ℕ, ◌<◌, Bool, true, false, List, [], ◌∷◌, ◌++◌, refl, sym, ap, ◌∙◌, subst, Option, Some, Ok, inl, inr}
use Rattle.std.specs.Prelude.{All}
use Rattle.std.proofs.lemmas.List.Elements.{All-nil, All-cons}
use Rattle.egl_flow.specs.Flow.{AtEnd, Took}
use Rattle.egl_flow.specs.declared.statuses.Status.{Status}
use Rattle.egl_flow.specs.declared.statuses.Status.TheVariants.{Ok as Fine, WriteFault, Stalled, NoMemory}
use Rattle.egl_flow.specs.Statuses.{Wrote}
use Rattle.trace_reader.specs.Traces.{TraceValue}
use Rattle.trace_reader.specs.Grammar.{trace}
use Rattle.trace_reader.specs.Order.{IsTrace}
use Rattle.egl_calls.specs.declared.entries.Entry.{Entry}
use Rattle.egl_model.specs.State.{State}
use Rattle.trace_model.specs.Follows.{FollowsFrom}
use Rattle.trace_model.specs.Serial.{state_behind, serial}
use Rattle.trace_model.specs.Stalled.{is_stalled, IsComplete, IsStalled}
use Rattle.trace_model.proofs.FollowsLaws.{serial_plays}
use Rattle.trace_model.proofs.OutcomeLaws.{not_stalled}
use Rattle.trace_session.specs.Runs.{IsRun}
use Rattle.egl_cli.specs.declared.commands.Command.TheVariants.{Compose}
use Rattle.egl_cli.specs.Answers.{frames_answer, journal_frames, run_frames}
use Rattle.egl_cli.specs.Inputs.{WasRead}
use Rattle.egl_cli.specs.Says.{WhereTold, WroteIfMade, Says, Spells, AreFrames, AreFramesStalled, IsHeadline, IsStalledHeadline}
use Rattle.egl_cli.proofs.AnswerLaws.{compose_is}
use Rattle.egl_cli.proofs.SaysLaws.{where_told, read_whole, answered, meant, ended, wanted}
use Rattle.egl_cli.proofs.StalledLaws.{never_stalls}

-- ---- The entries of a serial journal are of the trace's threads.
all_below : (t : TraceValue) (journal es : List Entry) → FollowsFrom t journal es → All (λ e. e.thread < t.threads) es
all_below t journal [] f = All-nil (λ (e : Entry). e.thread < t.threads)
all_below t journal (e ∷ es) f = All-cons (λ (x : Entry). x.thread < t.threads) e es f.0 (all_below t (journal ++ e ∷ []) es f.2)

pub threads_below : (t : TraceValue) (entries : List Entry) → IsTrace t → entries ≡ serial t → All (λ e. e.thread < t.threads) entries
threads_below t entries is e = subst (λ (es : List Entry). All (λ x. x.thread < t.threads) es) (sym e) (all_below t [] (serial t) (serial_plays t is).follows)

module _ (w h : ℕ) where
  -- ---- The answer to a run that came to its end, and to one that stalled.
  frames_by : (t : TraceValue) (stalled : Bool) → is_stalled t (serial t) (state_behind t (serial t)) ≡ stalled → run_frames w h t ≡ journal_frames w h t (serial t) stalled
  unfolding run_frames
  frames_by t stalled e = ap (journal_frames w h t (serial t)) e

  module _ (t : TraceValue) (entries : List Entry) (s : State) (r : IsRun t entries s) where
    pub frames_ended : IsComplete t (serial t) → journal_frames w h t entries false ≡ run_frames w h t
    frames_ended c = ap (λ (es : List Entry). journal_frames w h t es false) r.journal ∙ sym (frames_by t false (never_stalls t (serial t) (state_behind t (serial t)) c))

    pub frames_stalled : IsStalled t (serial t) → journal_frames w h t entries true ≡ run_frames w h t
    frames_stalled e = ap (λ (es : List Entry). journal_frames w h t es true) r.journal ∙ sym (frames_by t true e)

  -- ---- What each status promises.
  module _ (left rest : Option (List ℕ)) (source_failed : Type 0) (before after : Option (List ℕ)) (sink_failed : Type 0) where
    abbrev Promises : Status → Type 0
    Promises result = Says (Some (Compose w h)) left rest source_failed before after sink_failed result

    -- the frames of a journal were told
    says_journal : (t : TraceValue) (journal : List Entry) (stalled : Bool) (result : Status) → AtEnd rest → WhereTold left (λ b. frames_answer w h b ≡ journal_frames w h t journal stalled) →
        Wrote before (journal_frames w h t journal stalled).text after sink_failed (journal_frames w h t journal stalled).status result → Promises result
    says_journal t journal false result e told (inl q) = subst Promises (sym q.0) (e, answered (frames_answer w h) left before after (journal_frames w h t journal false) told q.1)
    says_journal t journal true result e told (inl q) = subst Promises (sym q.0) (e, answered (frames_answer w h) left before after (journal_frames w h t journal true) told q.1)
    says_journal t journal stalled result e told (inr q) = ended left rest source_failed before after sink_failed (Some (Compose w h)) (journal_frames w h t journal stalled).text result (meant (Some (Compose w h)) tt left source_failed (journal_frames w h t journal stalled) told) q

    says_run : (t : TraceValue) (result : Status) → AtEnd rest → WhereTold left (λ b. frames_answer w h b ≡ run_frames w h t) → Wrote before (run_frames w h t).text after sink_failed (run_frames w h t).status result → Promises result
    unfolding run_frames
    says_run t result e told q = says_journal t (serial t) (is_stalled t (serial t) (state_behind t (serial t))) result e told q

    pub says_frames : (t : TraceValue) (bytes : List ℕ) (result : Status) → WasRead left rest bytes → trace bytes ≡ Ok t → WroteIfMade before (run_frames w h t).text after sink_failed (run_frames w h t).status result → Promises result
    says_frames t bytes result r spelt (inl q) = says_run t result r.ended (read_whole trace (run_frames w h) (Some (Compose w h)) (compose_is w h) left rest bytes (Ok t) r spelt) q
    says_frames t bytes result r spelt (inr q) = wanted left rest source_failed before after sink_failed (Some (Compose w h)) result q

  -- ---- What statuses Ok and Stalled are worth.
  module _ (b : List ℕ) (before after : Option (List ℕ)) (t : TraceValue) (spells : Spells b t) where
    shown_by : (stalled : Bool) → is_stalled t (serial t) (state_behind t (serial t)) ≡ stalled → (journal_frames w h t (serial t) stalled).status ≡ Fine → Took before (journal_frames w h t (serial t) stalled).text after → AreFrames w h b before after
    shown_by true e s took = absurd (let f : Stalled ≡ Fine = s in cc)
    shown_by false e s took = (t, spells, (serial t, serial_plays t spells.ordered, not_stalled t e, took))

    stuck_by : (stalled : Bool) → is_stalled t (serial t) (state_behind t (serial t)) ≡ stalled → (journal_frames w h t (serial t) stalled).status ≡ Stalled → Took before (journal_frames w h t (serial t) stalled).text after → AreFramesStalled w h b before after
    stuck_by true e s took = (t, spells, (serial t, serial_plays t spells.ordered, e, took))
    stuck_by false e s took = absurd (let f : Fine ≡ Stalled = s in cc)

    shown : (run_frames w h t).status ≡ Fine → Took before (run_frames w h t).text after → AreFrames w h b before after
    unfolding run_frames
    shown s took = shown_by (is_stalled t (serial t) (state_behind t (serial t))) refl s took

    stuck : (run_frames w h t).status ≡ Stalled → Took before (run_frames w h t).text after → AreFramesStalled w h b before after
    unfolding run_frames
    stuck s took = stuck_by (is_stalled t (serial t) (state_behind t (serial t))) refl s took

  module _ (left rest before after : Option (List ℕ)) (failed : Type 0) (bytes : List ℕ) (result : Status) (r : WasRead left rest bytes) (t : TraceValue) (spelt : trace bytes ≡ Ok t) (traced : IsTrace t) where
    pub headline_frames : WroteIfMade before (run_frames w h t).text after failed (run_frames w h t).status result → result ≡ Fine → IsHeadline (Some (Compose w h)) left rest before after
    headline_frames (inl (inl q)) s = (r.ended, where_told (λ b. AreFrames w h b before after) left rest bytes r (shown bytes before after t (record { within = r.within; spelt = spelt; ordered = traced }) (sym q.0 ∙ s) q.1))
    headline_frames (inl (inr q)) s = absurd (let f : WriteFault ≡ Fine = sym q.0 ∙ s in cc)
    headline_frames (inr q) s = absurd (let f : NoMemory ≡ Fine = sym q.0 ∙ s in cc)

    pub stalled_frames : WroteIfMade before (run_frames w h t).text after failed (run_frames w h t).status result → result ≡ Stalled → IsStalledHeadline (Some (Compose w h)) left rest before after
    stalled_frames (inl (inl q)) s = (r.ended, where_told (λ b. AreFramesStalled w h b before after) left rest bytes r (stuck bytes before after t (record { within = r.within; spelt = spelt; ordered = traced }) (sym q.0 ∙ s) q.1))
    stalled_frames (inl (inr q)) s = absurd (let f : WriteFault ≡ Stalled = sym q.0 ∙ s in cc)
    stalled_frames (inr q) s = absurd (let f : NoMemory ≡ Stalled = sym q.0 ∙ s in cc)
