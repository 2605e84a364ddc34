-- What each status promises, from what was read and written.
use Rattle.std.proofs.Common.{◌≡◌, ℕ, ◌+◌, ◌<◌, ◌≤◌, true, false, List, [], ◌++◌, length, refl, sym, ap, ◌∙◌, arith, subst, Option, None, Some, Result, Err, inl, inr, length-append}
use Rattle.std.proofs.lemmas.Bool.{cond-true, cond-false}
use Rattle.std.proofs.lemmas.List.{append-nil}
use Rattle.std.specs.Prelude.{codes, nat_lt}
use Rattle.egl_flow.specs.Flow.{HasRisen, Took, TookFront}
use Rattle.egl_flow.specs.Causes.{GavePast}
use Rattle.egl_flow.specs.declared.statuses.Status.{Status}
use Rattle.egl_flow.specs.declared.statuses.Status.TheVariants.{Usage, ReadFault, Malformed, WriteFault, NoMemory, TooLong}
use Rattle.egl_flow.specs.Inputs.{read_fault_text, too_long_text, most_input}
use Rattle.egl_flow.specs.Statuses.{Wrote}
use Rattle.trace_reader.specs.declared.traces.Defect.{Defect}
use Rattle.trace_reader.specs.declared.traces.Reason.{Reason}
use Rattle.egl_cli.specs.declared.answers.Answer.{Answer}
use Rattle.egl_cli.specs.declared.commands.Command.{Command}
use Rattle.egl_cli.specs.declared.commands.Command.TheVariants.{Serial, Play, Check, Configs, Generate, Compose, Scene, Races}
use Rattle.egl_cli.specs.declared.inputs.InputError.{InputError}
use Rattle.egl_cli.specs.declared.inputs.InputError.TheVariants.{ReadFault as Unread, TooLong as Overlong, Malformed as Defective, NoMemory as Unmade}
use Rattle.egl_cli.specs.Answers.{within_limit, answer_or_defect, malformed_text, usage_text}
use Rattle.egl_cli.specs.Inputs.{WasRead, GivesNone}
use Rattle.egl_cli.specs.Says.{WhereTold, WroteRefusal, IsAnswered, ReadsInput, answer_of, IsMeant, Says}

-- ---- What was read.
pub within : (b : List ℕ) (a : Answer) → length b ≤ most_input → within_limit b a ≡ a
within b a le = let t : nat_lt most_input (length b) ≡ false = grind (arith, le) in cond-false _ _ _ t

past : (b : List ℕ) (a : Answer) → most_input < length b → within_limit b a ≡ record { status = TooLong; text = too_long_text }
past b a lt = let t : nat_lt most_input (length b) ≡ true = grind (arith, lt) in cond-true _ _ _ t

-- a fact of the bytes that were read is one of all that the source had left
pub where_told : (P : List ℕ → Type 0) (left rest : Option (List ℕ)) (bytes : List ℕ) → WasRead left rest bytes → P bytes → WhereTold left P
where_told P None rest bytes r p = tt
where_told P (Some b) None bytes r p = absurd r.all
where_told P (Some b) (Some x) bytes r p = subst P (sym (r.all ∙ ap (λ (y : List ℕ). bytes ++ y) r.ended ∙ append-nil bytes)) p

-- ---- A text was written, or was meant.
pub answered : (answer : List ℕ → Answer) (left : Option (List ℕ)) (before after : Option (List ℕ)) (a : Answer) → WhereTold left (λ b. answer b ≡ a) → Took before a.text after → WhereTold left (λ b. IsAnswered (answer b) before after a.status)
answered answer None before after a w t = tt
answered answer (Some b) before after a w t = (ap (λ (x : Answer). x.status) w, (let P : Answer → Type 0 = λ x. Took before x.text after in subst P (sym w) t))

pub meant : (command : Option Command) → ReadsInput command → (left : Option (List ℕ)) (failed : Type 0) (a : Answer) → WhereTold left (λ b. answer_of command b ≡ a) → IsMeant command left failed a.text
meant None p left failed a w = absurd p
meant (Some Serial) p None failed a w = tt
meant (Some Serial) p (Some b) failed a w = inl (ap (λ (x : Answer). x.text) (sym w))
meant (Some (Play how)) p None failed a w = tt
meant (Some (Play how)) p (Some b) failed a w = inl (inl (ap (λ (x : Answer). x.text) (sym w)))
meant (Some Check) p None failed a w = tt
meant (Some Check) p (Some b) failed a w = inl (ap (λ (x : Answer). x.text) (sym w))
meant (Some Configs) p left failed a w = absurd p
meant (Some (Generate lines threads seed)) p left failed a w = absurd p
meant (Some (Compose width height)) p None failed a w = tt
meant (Some (Compose width height)) p (Some b) failed a w = inl (ap (λ (x : Answer). x.text) (sym w))
meant (Some Scene) p None failed a w = tt
meant (Some Scene) p (Some b) failed a w = inl (ap (λ (x : Answer). x.text) (sym w))
meant (Some Races) p None failed a w = tt
meant (Some Races) p (Some b) failed a w = inl (inl (ap (λ (x : Answer). x.text) (sym w)))

meant_fault : (command : Option Command) → ReadsInput command → (left : Option (List ℕ)) (failed : Type 0) → failed → IsMeant command left failed read_fault_text
meant_fault None p left failed f = absurd p
meant_fault (Some Serial) p None failed f = tt
meant_fault (Some Serial) p (Some b) failed f = inr (refl, f)
meant_fault (Some (Play how)) p None failed f = tt
meant_fault (Some (Play how)) p (Some b) failed f = inr (refl, f)
meant_fault (Some Check) p None failed f = tt
meant_fault (Some Check) p (Some b) failed f = inr (refl, f)
meant_fault (Some Configs) p left failed f = absurd p
meant_fault (Some (Generate lines threads seed)) p left failed f = absurd p
meant_fault (Some (Compose width height)) p None failed f = tt
meant_fault (Some (Compose width height)) p (Some b) failed f = inr (refl, f)
meant_fault (Some Scene) p None failed f = tt
meant_fault (Some Scene) p (Some b) failed f = inr (refl, f)
meant_fault (Some Races) p None failed f = tt
meant_fault (Some Races) p (Some b) failed f = inr (refl, f)

-- ---- Of a command that answers what the bytes spell.
module _ {A : Type 0} (spelled : List ℕ → Result A Defect) (answer : A → Answer) (command : Option Command) (is : (b : List ℕ) → answer_of command b ≡ within_limit b (answer_or_defect answer (spelled b))) where
  pub read_whole : (left rest : Option (List ℕ)) (bytes : List ℕ) (r : Result A Defect) → WasRead left rest bytes → spelled bytes ≡ r → WhereTold left (λ b. answer_of command b ≡ answer_or_defect answer r)
  read_whole left rest bytes r w h = where_told (λ b. answer_of command b ≡ answer_or_defect answer r) left rest bytes w (is bytes ∙ within bytes _ w.within ∙ ap (answer_or_defect answer) h)

  read_past : (left rest : Option (List ℕ)) (n : ℕ) → GavePast left rest most_input n → WhereTold left (λ b. answer_of command b ≡ record { status = TooLong; text = too_long_text })
  read_past None rest n p = tt
  read_past (Some b) None n p = absurd p.1.2
  read_past (Some b) (Some r) n p =
      let long : most_input < length b = omega (arith, ap length p.1.2, length-append p.1.0 r, p.1.1, p.0) in
      is b ∙ past b _ long

-- ---- What the program says.
module _ (left rest : Option (List ℕ)) (source_failed : Type 0) (before after : Option (List ℕ)) (sink_failed : Type 0) where
  abbrev pub Promises : Option Command → Status → Type 0
  Promises command result = Says command left rest source_failed before after sink_failed result

  abbrev pub Written : List ℕ → Status → Status → Type 0
  Written text status result = Wrote before text after sink_failed status result

  -- what follows where the writing failed
  pub ended : (command : Option Command) (text : List ℕ) (result : Status) → IsMeant command left source_failed text →
      ((result ≡ WriteFault) × TookFront before text after × sink_failed) → Promises command result
  ended command text result m w = subst (Promises command) (sym w.0) (w.2, (text, w.1, m))

  -- what follows where memory ran out
  pub wanted : (command : Option Command) (result : Status) → ((result ≡ NoMemory) × Took before [] after) → Promises command result
  wanted command result w = subst (Promises command) (sym w.0) w.1

  pub says_usage : (command : Option Command) (result : Status) → command ≡ None → rest ≡ left → Written (codes "usage: egl_cli serial | play [summary] | check | configs | gen N THREADS SEED | compose W H | scene | races\n") Usage result → Promises command result
  unfolding usage_text
  says_usage (Some x) result h e q = absurd (let f : Some x ≡ None = h in cc)
  says_usage None result h e (inl q) = subst (Promises None) (sym q.0) (refl, e, q.1)
  says_usage None result h e (inr q) = ended None usage_text result refl q

  pub says_read_fault : (command : Option Command) → ReadsInput command → (result : Status) → source_failed → Written read_fault_text ReadFault result → Promises command result
  says_read_fault command p result f (inl q) = subst (Promises command) (sym q.0) (p, f, q.1)
  says_read_fault command p result f (inr q) = ended command read_fault_text result (meant_fault command p left source_failed f) q

  -- ---- Of a command that reads, where there is nothing to answer.
  module _ {A : Type 0} (spelled : List ℕ → Result A Defect) (answer : A → Answer) (command : Option Command) (p : ReadsInput command) (is : (b : List ℕ) → answer_of command b ≡ within_limit b (answer_or_defect answer (spelled b))) where
    pub says_malformed : (bytes : List ℕ) (n : ℕ) (r : Reason) (result : Status) → WasRead left rest bytes → spelled bytes ≡ Err (record { line = n; reason = r }) → Written (malformed_text n r) Malformed result → Promises command result
    says_malformed bytes n r result w h (inl q) =
        let a : Answer = record { status = Malformed; text = malformed_text n r } in
        subst (Promises command) (sym q.0) (p, w.ended, answered (answer_of command) left before after a (read_whole spelled answer command is left rest bytes (Err (record { line = n; reason = r })) w h) q.1)
    says_malformed bytes n r result w h (inr q) =
        let a : Answer = record { status = Malformed; text = malformed_text n r } in
        ended command (malformed_text n r) result (meant command p left source_failed a (read_whole spelled answer command is left rest bytes (Err (record { line = n; reason = r })) w h)) q

    pub says_too_long : (result : Status) → GavePast left rest most_input (most_input + 1) → Written too_long_text TooLong result → Promises command result
    says_too_long result g (inl q) =
        let a : Answer = record { status = TooLong; text = too_long_text } in
        subst (Promises command) (sym q.0) (p, g, answered (answer_of command) left before after a (read_past spelled answer command is left rest (most_input + 1) g) q.1)
    says_too_long result g (inr q) =
        let a : Answer = record { status = TooLong; text = too_long_text } in
        ended command too_long_text result (meant command p left source_failed a (read_past spelled answer command is left rest (most_input + 1) g)) q

-- the same by the cause
module _ (left rest : Option (List ℕ)) (faults_before faults : ℕ) (before after : Option (List ℕ)) (sink_failed : Type 0) where
  module _ {A : Type 0} (spelled : List ℕ → Result A Defect) (answer : A → Answer) (command : Option Command) (p : ReadsInput command) (is : (b : List ℕ) → answer_of command b ≡ within_limit b (answer_or_defect answer (spelled b))) where
    pub says_refused : (e : InputError) (result : Status) → GivesNone spelled left rest faults_before faults e → WroteRefusal e before after sink_failed result → Says command left rest (HasRisen faults_before faults) before after sink_failed result
    says_refused Unread result u w = says_read_fault left rest (HasRisen faults_before faults) before after sink_failed command p result u w
    says_refused Overlong result u w = says_too_long left rest (HasRisen faults_before faults) before after sink_failed spelled answer command p is result u w
    says_refused (Defective n r) result u w = says_malformed left rest (HasRisen faults_before faults) before after sink_failed spelled answer command p is u.0 n r result u.1 u.2 w
    says_refused Unmade result u w = wanted left rest (HasRisen faults_before faults) before after sink_failed command result w
