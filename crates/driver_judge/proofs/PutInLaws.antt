-- Calls that are refused anew may be put in.
use Rattle.std.proofs.Common.{◌≡◌, ◌≢◌, ℕ, ◌+◌, List, [], ◌∷◌, ◌++◌, fold, refl, sym, ap, subst, ◌∙◌, arith}
use Rattle.std.specs.Prelude.{None, Some, true}
use Rattle.std.proofs.lemmas.List.{append-nil, set-get_or}
use Rattle.egl_calls.specs.Calls.{CallValue}
use Rattle.context_state.specs.Parts.{PartValue}
use Rattle.driver_core.specs.Judging.{noted_on}
use Rattle.egl_calls.specs.declared.errors.EglError.{EglError}
use Rattle.egl_calls.specs.declared.errors.GlError.{GlError}
use Rattle.egl_calls.specs.declared.errors.GlError.TheVariants.{NoError}
use Rattle.egl_model.specs.Currents.{current_context, part_of_context}
use Rattle.egl_model.specs.State.{State, initial, record_of, set_error}
use Rattle.egl_model.specs.declared.records.ThreadRecord.{ThreadRecord}
use Rattle.model_laws.proofs.Steps.RefusalLaws.{note_error-later}
use Rattle.log_reader.specs.declared.answers.Answer.{Answer}
use Rattle.log_reader.specs.declared.items.Called.{Called}
use Rattle.log_reader.specs.declared.items.Item.{Item}
use Rattle.log_reader.specs.declared.items.Item.TheVariants.{Call}
use Rattle.log_reader.specs.declared.outcomes.LogOutcome.{LogOutcome}
use Rattle.log_reader.specs.declared.outcomes.LogOutcome.TheVariants.{Done, Egl, Gl, Unnamed}
use Rattle.trace_reader.specs.declared.traces.Line.{Line}
use Rattle.driver_judge.specs.Answers.{bytes_beside}
use Rattle.driver_judge.specs.Judgements.{Progress, TallyValue, is_own, judge_next, noted, with_found, with_verdict}
use Rattle.driver_judge.specs.Judging.{Beside, KeptValue, Setting, agreed_outcome, assigned, both_refused, found, judge_call, judge_item, nothing_kept, number_of, refusal_difference, refused_behind}
use Rattle.driver_judge.specs.Laws.{IsNoted, IsOfARow, IsRefusedAnew, OneMoreAgrees, error_answer}
use Rattle.driver_judge.specs.Outcomes.{agrees, outcomes, refused_with}
use Rattle.driver_judge.specs.Pixels.{pixel_difference}
use Rattle.driver_judge.specs.declared.judgements.LineVerdict.TheVariants.{Agreed}
use Rattle.driver_judge.proofs.OutcomeLaws.{no_row_is_done}
use Rattle.driver_judge.proofs.OursLaws.{outcome_found, row_agrees}

-- ---- The line leaves all as it was.
error_is : (l : Line) (e : LogOutcome) (s : State) (k : KeptValue) → both_refused l (error_answer e) s k ≡ found Agreed (refused_with s l.thread e) (refused_behind l k)
unfolding both_refused refusal_difference bytes_beside pixel_difference
error_is l e s k = refl

refused_is : (set : Setting) (l : Line) (c : CallValue) (e : LogOutcome) (s : State) (k : KeptValue) → IsOfARow s l.thread c e → agreed_outcome set l c (error_answer e) e s k ≡ found Agreed (refused_with s l.thread e) (refused_behind l k)
refused_is set l c Done s k h = absurd (no_row_is_done s l.thread c h)
refused_is set l c (Egl e) s k h = error_is l (Egl e) s k
refused_is set l c (Gl e) s k h = error_is l (Gl e) s k
refused_is set l c (Unnamed z) s k h = error_is l (Unnamed z) s k

kept_as_it_was : (l : Line) (k : KeptValue) → l.assigns ≡ None → refused_behind l k ≡ k
kept_as_it_was l k e = ap (λ o. record k { variables = assigned o nothing_kept k.variables }) e

left_alone : (set : Setting) (x : Called) (b : Beside) (c : CallValue) (e : LogOutcome) → IsRefusedAnew set x b c e → judge_call set x b.state b.kept ≡ found Agreed b.state b.kept
left_alone set x b c e h =
    let outcome : agrees (outcomes b.state x.line.thread c) x.answer.outcome ≡ true = ap (λ (a : Answer). agrees (outcomes b.state x.line.thread c) a.outcome) h.answer ∙ row_agrees b.state x.line.thread c e h.row in
    outcome_found set x b.state b.kept c h.judged outcome
    ∙ ap (λ (a : Answer). agreed_outcome set x.line c a a.outcome b.state b.kept) h.answer
    ∙ refused_is set x.line c e b.state b.kept h.row
    ∙ ap (λ s. found Agreed s (refused_behind x.line b.kept)) h.noted
    ∙ ap (λ k. found Agreed b.state k) (kept_as_it_was x.line b.kept h.unnamed)

-- ---- All other lines.
abbrev from : Beside → TallyValue → Progress
from b t = record { beside = b; tally = t }

others_as_before : (set : Setting) (b : Beside) (t u : TallyValue) (items : List Item) → u.agreed ≡ t.agreed + 1 → u.own ≡ t.own → u.notes ≡ t.notes → OneMoreAgrees (fold (judge_next set) (from b t) items) (fold (judge_next set) (from b u) items)
unfolding judge_next
others_as_before set b t u [] agreed own notes = record { beside = refl; agreed = agreed; own = own; notes = notes }
others_as_before set b t u (item ∷ items) agreed own notes =
    let f = judge_item set item b.state b.kept in
    let line = number_of item in
    others_as_before set f.after (with_verdict line f.verdict t) (with_verdict line f.verdict u) items
    (omega (arith, agreed)) (ap (λ n. n + is_own f.verdict) own) (ap (λ ns. ns ++ noted line f.verdict) notes)

in_a_row : (set : Setting) (p : Progress) (before after : List Item) → fold (judge_next set) p (before ++ after) ≡ fold (judge_next set) (fold (judge_next set) p before) after
in_a_row set p [] after = refl
in_a_row set p (item ∷ before) after = in_a_row set (judge_next set p item) before after

line_agrees : (set : Setting) (q : Progress) (x : Called) (c : CallValue) (e : LogOutcome) → IsRefusedAnew set x q.beside c e → judge_next set q (Call x) ≡ from q.beside (with_verdict x.line.number Agreed q.tally)
unfolding judge_next judge_item
line_agrees set q x c e h = ap (λ f. with_found x.line.number f q.tally) (left_alone set x q.beside c e h)

put_in_here : (set : Setting) (q : Progress) (after : List Item) (x : Called) (c : CallValue) (e : LogOutcome) → IsRefusedAnew set x q.beside c e → OneMoreAgrees (fold (judge_next set) q after) (fold (judge_next set) q (Call x ∷ after))
put_in_here set q after x c e h =
    subst (λ (p : Progress). OneMoreAgrees (fold (judge_next set) q after) (fold (judge_next set) p after)) (sym (line_agrees set q x c e h))
    (others_as_before set q.beside q.tally (with_verdict x.line.number Agreed q.tally) after refl (omega arith) (append-nil q.tally.notes))

pub may_be_put_in : (set : Setting) (p : Progress) (before after : List Item) (x : Called) (c : CallValue) (e : LogOutcome) → IsRefusedAnew set x (fold (judge_next set) p before).beside c e → OneMoreAgrees (fold (judge_next set) p (before ++ after)) (fold (judge_next set) p (before ++ Call x ∷ after))
may_be_put_in set p before after x c e h =
    subst (λ (q : Progress). OneMoreAgrees q (fold (judge_next set) p (before ++ Call x ∷ after))) (sym (in_a_row set p before after))
    (subst (λ (q : Progress). OneMoreAgrees (fold (judge_next set) (fold (judge_next set) p before) after) q) (sym (in_a_row set p before (Call x ∷ after)))
    (put_in_here set (fold (judge_next set) p before) after x c e h))

-- ---- Where an error is noted already.
egl_noted : (s : State) (t : ℕ) (e : EglError) → (record_of s t).error ≡ e → set_error s t e ≡ s
egl_noted s t e h = ap (λ x. set_error s t x) (sym h) ∙ ap (λ (ts : List ThreadRecord). record s { threads = ts }) (set-get_or s.threads t initial)

gl_noted : (s : State) (t n : ℕ) (e : GlError) (p : PartValue) → current_context s t ≡ Some n → part_of_context s n ≡ Some p → p.error ≢ NoError → noted_on (current_context s t) e s ≡ s
gl_noted s t n e p current part some = ap (λ o. noted_on o e s) current ∙ note_error-later s n e p part some

pub is_noted : (s : State) (t : ℕ) (e : LogOutcome) → IsNoted s t e → refused_with s t e ≡ s
is_noted s t Done h = absurd h
is_noted s t (Egl e) h = egl_noted s t e h
is_noted s t (Gl e) h = gl_noted s t h.0 e h.1 h.2 h.3 h.4
is_noted s t (Unnamed z) h = absurd h
