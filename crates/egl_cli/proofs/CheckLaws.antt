-- What `check` says to a recording behind its trace, and what that is worth.
use Rattle.std.proofs.Common.{◌≡◌, ℕ, List, take, drop, refl, sym, ap, ◌∙◌, subst, Option, None, Some, Result, Ok, Err, inl, inr}
use Rattle.std.specs.Prelude.{codes, IsOkAnd}
use Rattle.std.specs.Str.Lines.{lines}
use Rattle.egl_flow.specs.Flow.{AtEnd, Took}
use Rattle.egl_flow.specs.declared.statuses.Status.{Status}
use Rattle.egl_flow.specs.declared.statuses.Status.TheVariants.{Ok as Fine, WriteFault, NoMemory, Differs}
use Rattle.egl_flow.specs.Statuses.{Wrote}
use Rattle.trace_reader.specs.declared.traces.Defect.{Defect}
use Rattle.trace_reader.specs.Traces.{TraceValue}
use Rattle.trace_reader.specs.Grammar.{trace}
use Rattle.trace_reader.specs.Order.{IsTrace}
use Rattle.journal_text.specs.Cuts.{cut_recording}
use Rattle.journal_text.specs.Readings.{recorded}
use Rattle.journal_text.specs.declared.cuts.Cut.{Cut}
use Rattle.journal_text.specs.declared.recordings.RecordedLine.{RecordedLine}
use Rattle.trace_check.proofs.WrittenLaws.{holds_alone}
use Rattle.trace_check.specs.Verdicts.{verdict}
use Rattle.trace_check.specs.declared.verdicts.Verdict.{Verdict}
use Rattle.trace_check.specs.declared.verdicts.Verdict.TheVariants.{Holds, Differs as DiffersAt, Incomplete}
use Rattle.egl_cli.specs.declared.inputs.Claim.{Claim}
use Rattle.egl_cli.specs.declared.commands.Command.TheVariants.{Check}
use Rattle.egl_cli.specs.Answers.{check_answer, verdict_answer, claim_answer, then_lines, claimed_at, claimed}
use Rattle.egl_cli.specs.Inputs.{WasRead}
use Rattle.egl_cli.specs.Says.{WhereTold, WroteIfMade, Says, IsClaimTrue, IsHeadline}
use Rattle.egl_cli.proofs.AnswerLaws.{check_is}
use Rattle.egl_cli.proofs.SaysLaws.{where_told, read_whole, answered, meant, ended, wanted}

module _ (left rest : Option (List ℕ)) (source_failed : Type 0) (before after : Option (List ℕ)) (sink_failed : Type 0) where
  abbrev Promises : Status → Type 0
  Promises result = Says (Some Check) left rest source_failed before after sink_failed result

  -- the answer to a verdict was told
  says_verdict : (v : Verdict) (result : Status) → AtEnd rest → WhereTold left (λ b. check_answer b ≡ verdict_answer v) →
      Wrote before (verdict_answer v).text after sink_failed (verdict_answer v).status result → Promises result
  says_verdict Holds result e w (inl q) = subst Promises (sym q.0) (e, answered check_answer left before after (verdict_answer Holds) w q.1)
  says_verdict (DiffersAt place expected found) result e w (inl q) = subst Promises (sym q.0) (e, answered check_answer left before after (verdict_answer (DiffersAt place expected found)) w q.1)
  says_verdict (Incomplete thread line) result e w (inl q) = subst Promises (sym q.0) (e, answered check_answer left before after (verdict_answer (Incomplete thread line)) w q.1)
  says_verdict v result e w (inr q) = ended left rest source_failed before after sink_failed (Some Check) (verdict_answer v).text result (meant (Some Check) tt left source_failed (verdict_answer v) w) q

  says_claim : (c : Claim) (result : Status) → AtEnd rest → WhereTold left (λ b. check_answer b ≡ claim_answer c) → Wrote before (claim_answer c).text after sink_failed (claim_answer c).status result → Promises result
  unfolding claim_answer
  says_claim c result e w q = says_verdict (verdict c.trace c.recording) result e w q

  pub says_check : (c : Claim) (bytes : List ℕ) (result : Status) → WasRead left rest bytes → claimed bytes ≡ Ok c → WroteIfMade before (claim_answer c).text after sink_failed (claim_answer c).status result → Promises result
  says_check c bytes result r h (inl q) = says_claim c result r.ended (read_whole claimed claim_answer (Some Check) check_is left rest bytes (Ok c) r h) q
  says_check c bytes result r h (inr q) = wanted left rest source_failed before after sink_failed (Some Check) result q

-- ---- What status Ok is worth.
record AreRead (t : Result TraceValue Defect) (lines : Result (List RecordedLine) Defect) (c : Claim) : Type 0 where
  trace : t ≡ Ok c.trace
  recording : lines ≡ Ok c.recording

read_both : (t : Result TraceValue Defect) (lines : Result (List RecordedLine) Defect) (c : Claim) → then_lines t lines ≡ Ok c → AreRead t lines c
read_both (Ok t) (Ok ls) c h =
    let e : record { trace = t; recording = ls } ≡ c = cc in
    record { trace = ap {B = Result TraceValue Defect} (λ (x : Claim). Ok x.trace) e; recording = ap {B = Result (List RecordedLine) Defect} (λ (x : Claim). Ok x.recording) e }
read_both (Ok t) (Err d) c h = absurd (let e : Err d ≡ Ok c = h in cc)
read_both (Err d) lines c h = absurd (let e : Err d ≡ Ok c = h in cc)

held : (c : Claim) (v : Verdict) → (verdict_answer v).status ≡ Fine → v ≡ Holds
held c Holds h = refl
held c (DiffersAt place expected found) h = absurd (let e : Differs ≡ Fine = h in cc)
held c (Incomplete thread line) h = absurd (let e : Differs ≡ Fine = h in cc)

holds : (c : Claim) → (claim_answer c).status ≡ Fine → verdict c.trace c.recording ≡ Holds
unfolding claim_answer
holds c h = held c (verdict c.trace c.recording) h

holds_text : (c : Claim) → verdict c.trace c.recording ≡ Holds → (claim_answer c).text ≡ codes "holds\n"
unfolding claim_answer
holds_text c h = ap (λ (v : Verdict). (verdict_answer v).text) h

true_at : (b : List ℕ) (o : Option Cut) → cut_recording b ≡ o → (c : Claim) → claimed_at b o ≡ Ok c → IsTrace c.trace → verdict c.trace c.recording ≡ Holds → IsClaimTrue b
true_at b None q c h is v = absurd (let e = (read_both (trace b) _ c h).recording in cc)
true_at b (Some cut) q c h is v =
    let both = read_both (trace (take cut.front b)) (recorded cut.line (drop cut.front b)) c h in
    record {
      cut = cut;
      begins = q;
      t = c.trace;
      spelt = both.trace;
      ordered = is;
      recorded = holds_alone c.trace (drop cut.front b) cut.line is (subst (λ (r : Result (List RecordedLine) Defect). IsOkAnd r (λ ls. verdict c.trace ls ≡ Holds)) (sym both.recording) v);
    }

claim_true : (b : List ℕ) (c : Claim) → claimed b ≡ Ok c → IsTrace c.trace → verdict c.trace c.recording ≡ Holds → IsClaimTrue b
unfolding claimed
claim_true b c h is v = true_at b (cut_recording b) refl c h is v

module _ (left rest before after : Option (List ℕ)) (failed : Type 0) (bytes : List ℕ) (result : Status) (r : WasRead left rest bytes) (c : Claim) (h : claimed bytes ≡ Ok c) (is : IsTrace c.trace) where
  pub headline_check : WroteIfMade before (claim_answer c).text after failed (claim_answer c).status result → result ≡ Fine → IsHeadline (Some Check) left rest before after
  headline_check (inl (inl q)) s =
      let v = holds c (sym q.0 ∙ s) in
      (r.ended, where_told (λ b. IsClaimTrue b × Took before (codes "holds\n") after) left rest bytes r (claim_true bytes c h is v, subst (λ (x : List ℕ). Took before x after) (holds_text c v) q.1))
  headline_check (inl (inr q)) s = absurd (let f : WriteFault ≡ Fine = sym q.0 ∙ s in cc)
  headline_check (inr q) s = absurd (let f : NoMemory ≡ Fine = sym q.0 ∙ s in cc)
