-- What a recording of ours holds agrees.
use Rattle.std.proofs.Common.{◌≡◌, ◌⊎◌, inl, inr, ℕ, ◌+◌, pos, Bool, true, List, [], ◌∷◌, ◌++◌, fold, length, refl, sym, ap, subst, ◌∙◌, arith, if◌then◌else◌, unwrap_or, Option, None, Some}
use Rattle.std.proofs.lemmas.List.{append-nil}
use Rattle.egl_calls.specs.Calls.{CallValue, ReplyValue}
use Rattle.egl_calls.specs.declared.entries.Entry.{Entry}
use Rattle.egl_calls.specs.declared.kinds.Kind.{Kind}
use Rattle.egl_calls.specs.declared.kinds.Kind.TheVariants.{Egl as EglCall, Gl as GlCall, Own as OwnCall}
use Rattle.egl_calls.specs.declared.kinds.OwnKind.TheVariants.{Post, Await, Census, ReadFront, ReadBuffer, WaitEnd, Halt}
use Rattle.egl_model.specs.History.{IsLegalFrom, replay_from}
use Rattle.egl_model.specs.State.{State, opening}
use Rattle.egl_model.specs.Step.{Stepped, bare, step}
use Rattle.log_reader.specs.Forms.{needs_no_answer}
use Rattle.log_reader.specs.Logs.{LogValue}
use Rattle.log_reader.specs.declared.answers.Answer.{Answer}
use Rattle.log_reader.specs.declared.items.Called.{Called}
use Rattle.log_reader.specs.declared.items.Item.{Item}
use Rattle.log_reader.specs.declared.items.Item.TheVariants.{Call, Front}
use Rattle.log_reader.specs.declared.items.Shown.{Shown}
use Rattle.log_reader.specs.declared.outcomes.LogOutcome.{LogOutcome}
use Rattle.log_reader.specs.declared.outcomes.LogOutcome.TheVariants.{Done, Egl, Gl, Unnamed}
use Rattle.model_laws.proofs.Steps.RefusalLaws.{own_state}
use Rattle.driver_judge.specs.Fences.{step_beside}
use Rattle.driver_judge.specs.Judgements.{Progress, begun, judge_next, judged, judgement, opened, setting}
use Rattle.driver_judge.specs.Judging.{Found, KeptValue, Setting, agreed_outcome, both_refused, fault_of, found, judge_call, judge_item, number_of, refused_behind, unless_at_fault}
use Rattle.driver_judge.specs.Laws.{AgreesInto, AreDone, IsJudgedAs, IsOfARow, IsOfOurs, RecordsBy, RecordsEntry, RecordsLine, RecordsNothing, error_answer, is_agreement, reply_answer, told_outcome}
use Rattle.driver_facts.specs.Verdicts.{refusals}
use Rattle.trace_model.proofs.SerialLaws.{serial_legal}
use Rattle.trace_model.specs.Follows.{IsPlayOf}
use Rattle.trace_model.specs.Serial.{serial}
use Rattle.trace_reader.specs.Traces.{TraceValue}
use Rattle.trace_reader.specs.declared.traces.Line.{Line}
use Rattle.driver_judge.specs.Answers.{basis_of, thread_group}
use Rattle.driver_judge.specs.Outcomes.{agrees, errors_of, outcomes}
use Rattle.driver_judge.specs.declared.judgements.LineVerdict.{LineVerdict}
use Rattle.driver_judge.specs.declared.judgements.LineVerdict.TheVariants.{Agreed}
use Rattle.driver_judge.proofs.CameLaws.{IsRefusedBy, came}
use Rattle.driver_judge.proofs.FrontLaws.{front_kept, front_state}
use Rattle.driver_judge.proofs.OutcomeLaws.{no_row_is_done}
use Rattle.driver_judge.proofs.SelfLaws.{IsFaultless, carried_faultless, faultless, names_ours, opened_faultless, refused_faultless}
use Rattle.driver_judge.proofs.OursLaws.{carried_agrees, carried_leaves, outcome_found, row_agrees, is_one, not_noted, refused_agrees, shown_agrees}

-- ---- The reply of an entry, as a log tells it.
pub same_some : (o p q : LogOutcome) → Some o ≡ Some p → o ≡ p
same_some o p q e = ap (λ x. unwrap_or x q) e

is_done : (o : LogOutcome) (u : Option LogOutcome) → (u ≡ Some Done) ⊎ (u ≡ None) → u ≡ Some o → o ≡ Done
is_done o u (inl d) e = same_some o Done o (sym e ∙ d)
is_done o u (inr n) e = absurd (let f : None ≡ Some o = sym n ∙ e in cc)

-- a legal entry's reply is the step's
told_is : (x : Called) (e : Entry) (s : State) (k : KeptValue) (set : Setting) → RecordsEntry set x e s k → e.reply ≡ (step s e.thread e.call).reply → e.reply ≡ (step s x.line.thread e.call).reply
told_is x e s k set h legal = legal ∙ ap (λ t. (step s t e.call).reply) h.thread

done_answer : (x : Called) (e : Entry) (s : State) (k : KeptValue) (set : Setting) (r : ReplyValue) → RecordsEntry set x e s k → e.reply ≡ r → x.answer.outcome ≡ Done → x.answer ≡ reply_answer r
done_answer x e s k set r h is done =
    let value : x.answer.value ≡ r.value = h.reply.value ∙ ap (λ (q : ReplyValue). q.value) is in
    let list : x.answer.list ≡ r.list = h.reply.list ∙ ap (λ (q : ReplyValue). q.list) is in
    let bytes : x.answer.bytes ≡ r.bytes = h.reply.bytes ∙ ap (λ (q : ReplyValue). q.bytes) is in
    λ i. record { outcome = done i; value = value i; list = list i; bytes = bytes i }

refused_answer : (x : Called) (e : Entry) (s : State) (k : KeptValue) (set : Setting) (r : ReplyValue) (o : LogOutcome) → RecordsEntry set x e s k → e.reply ≡ r → r ≡ bare r.outcome → x.answer.outcome ≡ o → x.answer ≡ error_answer o
refused_answer x e s k set r o h is alone outcome =
    let value : x.answer.value ≡ pos 0 = h.reply.value ∙ ap (λ (q : ReplyValue). q.value) (is ∙ alone) in
    let list : x.answer.list ≡ [] = h.reply.list ∙ ap (λ (q : ReplyValue). q.list) (is ∙ alone) in
    let bytes : x.answer.bytes ≡ [] = h.reply.bytes ∙ ap (λ (q : ReplyValue). q.bytes) (is ∙ alone) in
    λ i. record { outcome = outcome i; value = value i; list = list i; bytes = bytes i }

-- ---- A line of an entry.
pub judged_as : (set : Setting) (x : Called) (e : Entry) (s : State) (k : KeptValue) → RecordsEntry set x e s k → IsFaultless k → IsJudgedAs set x s k e.call
judged_as set x e s k h f = record { asks = h.asks; faultless = faultless k x.line f; call = h.call; names = names_ours k (thread_group s x.line.thread) x.line f }

-- what a line leaves: it agrees, and no later line is at fault
pub record IsRecorded (f : Found) (after : State) : Type 0 where
  pub into : AgreesInto f after
  pub faultless : IsFaultless f.after.kept

answered_list : (x : Called) (r : ReplyValue) → x.answer ≡ reply_answer r → x.answer.list ≡ r.list
answered_list x r e = ap (λ (a : Answer). a.list) e

carried_kept : (set : Setting) (x : Called) (c : CallValue) (s : State) (k : KeptValue) → IsJudgedAs set x s k c → errors_of (refusals s x.line.thread c) ≡ [] → x.answer ≡ reply_answer (step_beside s x.line.thread c x.answer).reply → IsOfOurs set x s k c → IsFaultless k → IsFaultless (judge_call set x s k).after.kept
carried_kept set x c s k j none is ours f =
    subst (λ (q : KeptValue). IsFaultless q) (sym (carried_leaves set x s k c j none is ours))
    (carried_faultless set.configs k x.line c (basis_of s k.stands.handles x.line.thread c x.answer.value) (step_beside s x.line.thread c x.answer).reply x.answer (answered_list x (step_beside s x.line.thread c x.answer).reply is) f)

refused_kept : (set : Setting) (l : Line) (c : CallValue) (a : Answer) (o : LogOutcome) (s : State) (k : KeptValue) → (o ≡ Done → ⊥) → IsFaultless k → IsFaultless (agreed_outcome set l c a o s k).after.kept
unfolding both_refused
refused_kept set l c a Done s k n f = absurd (n refl)
refused_kept set l c a (Egl e) s k n f = refused_faultless k l f
refused_kept set l c a (Gl e) s k n f = refused_faultless k l f
refused_kept set l c a (Unnamed z) s k n f = refused_faultless k l f

refused_leaves : (set : Setting) (x : Called) (c : CallValue) (e : LogOutcome) (s : State) (k : KeptValue) → IsJudgedAs set x s k c → IsOfARow s x.line.thread c e → x.answer ≡ error_answer e → IsFaultless k → IsFaultless (judge_call set x s k).after.kept
refused_leaves set x c e s k j row is f =
    let outcome : x.answer.outcome ≡ e = ap (λ (a : Answer). a.outcome) is in
    let agree : agrees (outcomes s x.line.thread c) x.answer.outcome ≡ true = ap (agrees (outcomes s x.line.thread c)) outcome ∙ row_agrees s x.line.thread c e row in
    subst (λ (g : Found). IsFaultless g.after.kept) (sym (outcome_found set x s k c j agree))
    (refused_kept set x.line c x.answer x.answer.outcome s k (λ d. no_row_is_done s x.line.thread c (subst (λ q. IsOfARow s x.line.thread c q) (sym outcome ∙ d) row)) f)

carried_line : (set : Setting) (x : Called) (e : Entry) (s : State) (k : KeptValue) → RecordsEntry set x e s k → IsFaultless k → e.reply ≡ (step s x.line.thread e.call).reply → AreDone x.answer (step s x.line.thread e.call).reply → errors_of (refusals s x.line.thread e.call) ≡ [] → IsRecorded (judge_call set x s k) (step s x.line.thread e.call).state
unfolding step_beside
carried_line set x e s k h f legal done none =
    let t = x.line.thread in
    let j : IsJudgedAs set x s k e.call = judged_as set x e s k h f in
    let same : step_beside s t e.call x.answer ≡ step s t e.call = ap (λ (a : State). step a t e.call) h.fences in
    let answer : x.answer ≡ reply_answer (step_beside s t e.call x.answer).reply = done_answer x e s k set (step s t e.call).reply h legal done.theirs ∙ ap (λ (r : Stepped). reply_answer r.reply) (sym same) in
    record {
      into = subst (λ (r : Stepped). AgreesInto (judge_call set x s k) r.state) same (carried_agrees set x s k e.call j none answer (h.ours done));
      faultless = carried_kept set x e.call s k j none answer (h.ours done) f;
    }

refused_line : (set : Setting) (x : Called) (e : Entry) (s : State) (k : KeptValue) → RecordsEntry set x e s k → IsFaultless k → e.reply ≡ (step s x.line.thread e.call).reply → IsRefusedBy (refusals s x.line.thread e.call) s x.line.thread (step s x.line.thread e.call) → IsRecorded (judge_call set x s k) (step s x.line.thread e.call).state
refused_line set x e s k h f legal r =
    let t = x.line.thread in
    let j : IsJudgedAs set x s k e.call = judged_as set x e s k h f in
    let outcome : x.answer.outcome ≡ r.error = same_some x.answer.outcome r.error r.error (sym h.reply.outcome ∙ ap (λ (q : ReplyValue). told_outcome q.outcome) legal ∙ r.told) in
    let answer : x.answer ≡ error_answer r.error = refused_answer x e s k set (step s t e.call).reply r.error h legal r.alone outcome in
    record {
      into = subst (λ (a : State). AgreesInto (judge_call set x s k) a) (sym r.state) (refused_agrees set x s k e.call r.error j r.row answer);
      faultless = refused_leaves set x e.call r.error s k j r.row answer f;
    }

entry_line : (set : Setting) (x : Called) (e : Entry) (s : State) (k : KeptValue) → RecordsEntry set x e s k → IsFaultless k → e.reply ≡ (step s x.line.thread e.call).reply → IsRecorded (judge_call set x s k) (step s x.line.thread e.call).state
entry_line set x e s k h f legal = elim (came s x.line.thread e.call) [
  | inl c ↦ (let told = ap (λ (q : ReplyValue). told_outcome q.outcome) (sym legal) ∙ h.reply.outcome in
      let done = is_done x.answer.outcome (told_outcome (step s x.line.thread e.call).reply.outcome) c.1 told in
      carried_line set x e s k h f legal (record { theirs = done; ours = told ∙ ap Some done }) c.0)
  | inr r ↦ refused_line set x e s k h f legal r
]

-- ---- What threads tell one another changes nothing.
unanswered : (k : Kind) (s : State) (t : ℕ) (c : CallValue) → c.kind ≡ k → needs_no_answer k ≡ true → (step s t c).state ≡ s
unanswered (EglCall k) s t c h n = cc
unanswered (GlCall k) s t c h n = cc
unanswered (OwnCall Post) s t c h n = own_state s t Post c h (λ e. cc) (λ e. cc)
unanswered (OwnCall Await) s t c h n = own_state s t Await c h (λ e. cc) (λ e. cc)
unanswered (OwnCall Census) s t c h n = cc
unanswered (OwnCall ReadFront) s t c h n = cc
unanswered (OwnCall ReadBuffer) s t c h n = cc
unanswered (OwnCall WaitEnd) s t c h n = cc
unanswered (OwnCall Halt) s t c h n = cc

pub nothing_line : (set : Setting) (x : Called) (e : Entry) (s : State) (k : KeptValue) → RecordsNothing x e → IsFaultless k → IsRecorded (judge_call set x s k) (step s x.line.thread e.call).state
unfolding judge_call
nothing_line set x e s k h f =
    subst (λ (a : State). IsRecorded (judge_call set x s k) a) (sym (unanswered x.line.call.kind s x.line.thread e.call h.kind h.asks))
    (subst (λ (b : Bool). IsRecorded (if b then found Agreed s (refused_behind x.line k) else unless_at_fault set x.line x.answer (fault_of k x.line) s k) s) (sym h.asks) (record { into = record { agrees = refl; state = refl }; faultless = refused_faultless k x.line f }))

pub recorded_line : (set : Setting) (x : Called) (e : Entry) (s : State) (k : KeptValue) → RecordsLine set x e s k → IsFaultless k → e.reply ≡ (step s e.thread e.call).reply → IsRecorded (judge_call set x s k) (step s e.thread e.call).state
recorded_line set x e s k (inl h) f legal = subst (λ t. IsRecorded (judge_call set x s k) (step s t e.call).state) (sym h.thread) (nothing_line set x e s k h f)
recorded_line set x e s k (inr h) f legal = subst (λ t. IsRecorded (judge_call set x s k) (step s t e.call).state) (sym h.thread) (entry_line set x e s k h f (told_is x e s k set h legal))

-- ---- All lines.
record AgreeInto (p : Progress) (lines : ℕ) (after : Progress) (s : State) : Type 0 where
  notes : after.tally.notes ≡ p.tally.notes
  agreed : after.tally.agreed ≡ p.tally.agreed + lines
  state : after.beside.state ≡ s

one_more : (set : Setting) (p : Progress) (item : Item) (n : ℕ) (after : Progress) (s : State) → is_agreement (judge_item set item p.beside.state p.beside.kept).verdict ≡ true → AgreeInto (judge_next set p item) n after s → AgreeInto p (n + 1) after s
unfolding judge_next
one_more set p item n after s h rest =
    let v : LineVerdict = (judge_item set item p.beside.state p.beside.kept).verdict in
    record {
      notes = rest.notes ∙ ap (λ ns. p.tally.notes ++ ns) (not_noted (number_of item) v h) ∙ append-nil p.tally.notes;
      agreed = let one = is_one v h in let a = rest.agreed in omega (arith, one, a);
      state = rest.state;
    }

counted : (set : Setting) (p : Progress) (item : Item) (items : List Item) (after : Progress) (s : State) → AgreeInto p (length items + 1) after s → AgreeInto p (length (item ∷ items)) after s
counted set p item items after s h = record { notes = h.notes; agreed = let a = h.agreed in omega (arith, a); state = h.state }

pub front_line : (set : Setting) (x : Shown) (s : State) (k : KeptValue) → (judge_item set (Front x) s k).after.state ≡ s
unfolding judge_item
front_line set x s k = sym (front_state set x s k)

pub front_faultless : (set : Setting) (x : Shown) (s : State) (k : KeptValue) → IsFaultless k → IsFaultless (judge_item set (Front x) s k).after.kept
unfolding judge_item
front_faultless set x s k f = subst IsFaultless (front_kept set x s k) f

all_recorded : (set : Setting) (p : Progress) (items : List Item) (es : List Entry) → IsFaultless p.beside.kept → IsLegalFrom p.beside.state es → RecordsBy RecordsLine set items es p.beside.state p.beside.kept → AgreeInto p (length items) (fold (judge_next set) p items) (replay_from p.beside.state es)
unfolding judge_next judge_item
all_recorded set p [] [] f legal h = record { notes = refl; agreed = omega arith; state = refl }
all_recorded set p [] (e ∷ es) f legal h = absurd h
all_recorded set p (Call x ∷ items) [] f legal h = absurd h
all_recorded set p (Call x ∷ items) (e ∷ es) f legal h =
    let line = recorded_line set x e p.beside.state p.beside.kept h.0 f legal.0 in
    let next : Progress = judge_next set p (Call x) in
    let rest = all_recorded set next items es line.faultless (subst (λ (a : State). IsLegalFrom a es) (sym line.into.state) legal.1) h.1 in
    counted set p (Call x) items (fold (judge_next set) next items) (replay_from p.beside.state (e ∷ es))
    (one_more set p (Call x) (length items) (fold (judge_next set) next items) (replay_from p.beside.state (e ∷ es)) line.into.agrees
    (record { notes = rest.notes; agreed = rest.agreed; state = rest.state ∙ ap (λ (a : State). replay_from a es) line.into.state }))
all_recorded set p (Front x ∷ items) es f legal h =
    let next : Progress = judge_next set p (Front x) in
    let same : next.beside.state ≡ p.beside.state = front_line set x p.beside.state p.beside.kept in
    let rest = all_recorded set next items es (front_faultless set x p.beside.state p.beside.kept f) (subst (λ (a : State). IsLegalFrom a es) (sym same) legal) h.1 in
    counted set p (Front x) items (fold (judge_next set) next items) (replay_from p.beside.state es)
    (one_more set p (Front x) (length items) (fold (judge_next set) next items) (replay_from p.beside.state es) (shown_agrees set x p.beside.state p.beside.kept h.0)
    (record { notes = rest.notes; agreed = rest.agreed; state = rest.state ∙ ap (λ (a : State). replay_from a es) same }))

none_before : (n : ℕ) → 0 + n ≡ n
none_before n = omega arith

pub log_recorded : (l : LogValue) (delta : ℕ) (es : List Entry) → IsLegalFrom (opening l.windows l.video) es → RecordsBy RecordsLine (setting l delta) l.items es (opened l).state (opened l).kept → ((judgement l delta).notes ≡ []) × ((judgement l delta).agreed ≡ length l.items) × ((judged l delta).beside.state ≡ replay_from (opening l.windows l.video) es)
unfolding judgement judged
log_recorded l delta es legal h = let all = all_recorded (setting l delta) (begun l) l.items es (opened_faultless l) legal h in (all.notes, all.agreed ∙ none_before (length l.items), all.state)

-- a history of a trace with the windows and the memory of the log
of_trace : (l : LogValue) (t : TraceValue) (es : List Entry) → t.windows ≡ l.windows → t.video ≡ l.video → IsLegalFrom (opening t.windows t.video) es → IsLegalFrom (opening l.windows l.video) es
of_trace l t es windows video h = subst (λ v. IsLegalFrom (opening l.windows v) es) video (subst (λ ws. IsLegalFrom (opening ws t.video) es) windows h)

pub play_recorded : (l : LogValue) (delta : ℕ) (t : TraceValue) (es : List Entry) → IsPlayOf t es → t.windows ≡ l.windows → t.video ≡ l.video → RecordsBy RecordsLine (setting l delta) l.items es (opened l).state (opened l).kept → ((judgement l delta).notes ≡ []) × ((judgement l delta).agreed ≡ length l.items)
play_recorded l delta t es play windows video h = let all = log_recorded l delta es (of_trace l t es windows video play.legal) h in (all.0, all.1)

pub serial_recorded : (l : LogValue) (delta : ℕ) (t : TraceValue) → t.windows ≡ l.windows → t.video ≡ l.video → RecordsBy RecordsLine (setting l delta) l.items (serial t) (opened l).state (opened l).kept → ((judgement l delta).notes ≡ []) × ((judgement l delta).agreed ≡ length l.items)
serial_recorded l delta t windows video h = let all = log_recorded l delta (serial t) (of_trace l t (serial t) windows video (serial_legal t)) h in (all.0, all.1)
