-- What `play` says, and its status where nothing failed.
use Rattle.std.proofs.Common.{◌≡◌, ◌++◌, ℕ, Bool, true, false, List, refl, sym, subst, Option, None, Some, Ok as Spelt, inl, inr}
use Rattle.std.specs.Prelude.{◌⊎◌}
use Rattle.egl_calls.specs.declared.entries.Entry.{Entry}
use Rattle.egl_flow.specs.Flow.{AtEnd}
use Rattle.egl_flow.specs.declared.statuses.Status.{Status}
use Rattle.egl_flow.specs.declared.statuses.Status.TheVariants.{Ok as Fine, Usage, ReadFault, Malformed, WriteFault, Stalled, NoMemory, TooLong, Differs}
use Rattle.egl_flow.specs.Inputs.{read_fault_text}
use Rattle.egl_flow.specs.Statuses.{Wrote}
use Rattle.trace_reader.specs.Grammar.{trace}
use Rattle.trace_reader.specs.Order.{IsTrace}
use Rattle.trace_reader.specs.Traces.{TraceValue}
use Rattle.trace_model.specs.Follows.{IsPlayOf}
use Rattle.trace_model.specs.Stalled.{IsComplete, IsStalled}
use Rattle.egl_cli.specs.StalledLines.{stalled_lines}
use Rattle.egl_cli.specs.declared.answers.Answer.{Answer}
use Rattle.egl_cli.specs.declared.commands.Command.TheVariants.{Play}
use Rattle.egl_cli.specs.Answers.{journal_answer, told}
use Rattle.egl_cli.specs.Inputs.{WasRead}
use Rattle.egl_cli.specs.Says.{IsPlayText, IsTold, IsToldStalled, IsWhole, Says, Spells, WhereTold, WrotePlay}
use Rattle.egl_cli.proofs.SaysLaws.{ended, wanted, where_told}

-- a fact of the bytes that follows from another
where_more : (left : Option (List ℕ)) (P Q : List ℕ → Type 0) → ((b : List ℕ) → P b → Q b) → WhereTold left P → WhereTold left Q
where_more None P Q f w = tt
where_more (Some b) P Q f w = f b w

module _ (left rest : Option (List ℕ)) (source_failed : Type 0) (before after : Option (List ℕ)) (sink_failed : Type 0) (how : Bool) (t : TraceValue) (result : Status) where
  abbrev Promised : Status → Type 0
  Promised s = Says (Some (Play how)) left rest source_failed before after sink_failed s

  says_complete : (journal : List Entry) → AtEnd rest → WhereTold left (λ b. Spells b t) → IsPlayOf t journal → IsComplete t journal → Wrote before (told how t journal) after sink_failed Fine result → Promised result
  says_complete journal e s p c (inl q) = subst Promised (sym q.0) (e, where_more left (λ b. Spells b t) (λ b. IsTold how b before after) (λ b k. (told how t journal, (t, k, (journal, p, c, refl)), q.1)) s)
  says_complete journal e s p c (inr q) = ended left rest source_failed before after sink_failed (Some (Play how)) (told how t journal) result (where_more left (λ b. Spells b t) (λ b. IsPlayText how b (told how t journal) ⊎ ((told how t journal ≡ read_fault_text) × source_failed)) (λ b k. inl (inr (inl (t, k, (journal, p, c, refl))))) s) q

  says_stuck : (journal : List Entry) → AtEnd rest → WhereTold left (λ b. Spells b t) → IsPlayOf t journal → IsStalled t journal → Wrote before (told how t journal ++ stalled_lines t journal) after sink_failed Stalled result → Promised result
  says_stuck journal e s p c (inl q) = subst Promised (sym q.0) (e, where_more left (λ b. Spells b t) (λ b. IsToldStalled how b before after) (λ b k. (told how t journal ++ stalled_lines t journal, (t, k, (journal, p, c, refl)), q.1)) s)
  says_stuck journal e s p c (inr q) =
      let text : List ℕ = told how t journal ++ stalled_lines t journal in
      ended left rest source_failed before after sink_failed (Some (Play how)) text result (where_more left (λ b. Spells b t) (λ b. IsPlayText how b text ⊎ ((text ≡ read_fault_text) × source_failed)) (λ b k. inl (inr (inr (t, k, (journal, p, c, refl))))) s) q

  abbrev WroteAs : Answer → Type 0
  WroteAs a = Wrote before a.text after sink_failed a.status result

  says_end : (a : Answer) (journal : List Entry) → AtEnd rest → WhereTold left (λ b. Spells b t) → IsPlayOf t journal → ((IsComplete t journal × (a ≡ journal_answer how t journal false)) ⊎ (IsStalled t journal × (a ≡ journal_answer how t journal true))) → WroteAs a → Promised result
  says_end a journal e s p (inl c) w = says_complete journal e s p c.0 (subst WroteAs c.1 w)
  says_end a journal e s p (inr c) w = says_stuck journal e s p c.0 (subst WroteAs c.1 w)

  -- what is said where the bytes that were read spell a trace
  pub says_play : (bytes : List ℕ) → WasRead left rest bytes → trace bytes ≡ Spelt t → IsTrace t → WrotePlay how t before after sink_failed result → Promised result
  says_play bytes r h is (inl q) = says_end q.0 q.1.0 r.ended (where_told (λ b. Spells b t) left rest bytes r (record { within = r.within; spelt = h; ordered = is })) q.1.1 q.1.2 q.2
  says_play bytes r h is (inr q) = wanted left rest source_failed before after sink_failed (Some (Play how)) result q

pub whole_play : (how : Bool) (left rest : Option (List ℕ)) (source_failed : Type 0) (before after : Option (List ℕ)) (sink_failed : Type 0) (result : Status) → Says (Some (Play how)) left rest source_failed before after sink_failed result → IsWhole (Some (Play how)) left source_failed sink_failed result
whole_play how None rest source_failed before after sink_failed result s = tt
whole_play how (Some b) rest source_failed before after sink_failed Fine s = λ n m. inl (inr ((s.1.1.0, s.1.1.1), inl refl))
whole_play how (Some b) rest source_failed before after sink_failed Usage s = λ n m. absurd (let f : Some (Play how) ≡ None = s.0 in cc)
whole_play how (Some b) rest source_failed before after sink_failed ReadFault s = λ n m. absurd (n s.1)
whole_play how (Some b) rest source_failed before after sink_failed Malformed s = λ n m. inl (inl s.2.0)
whole_play how (Some b) rest source_failed before after sink_failed WriteFault s = λ n m. absurd (m s.0)
whole_play how (Some b) rest source_failed before after sink_failed Stalled s = λ n m. inl (inr ((s.1.1.0, s.1.1.1), inr refl))
whole_play how (Some b) rest source_failed before after sink_failed NoMemory s = λ n m. inr refl
whole_play how (Some b) rest source_failed before after sink_failed TooLong s = λ n m. inl (inl s.2.0)
whole_play how (Some b) rest source_failed before after sink_failed Differs s = absurd s
