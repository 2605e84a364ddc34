use Rattle.std.proofs.Common.{◌≡◌, Some, ap, sym, subst, ◌∙◌}
use Rattle.std.specs.Option.{option_map}
use Rattle.egl_calls.specs.Calls.{CallValue}
use Rattle.trace_model.specs.Serial.{next_call}
use Rattle.trace_session.specs.Answers.{PostAlike}
use Rattle.trace_session.proofs.HeardLaws.{learnt_next}
use Rattle.trace_session.proofs.KnownLaws.{call_is, line_is}
use Rattle.trace_session.proofs.sessions.Session.learn_next.Goals as goal

pub returns-clause-learnt : goal.returns-clause-learnt
returns-clause-learnt c = λ journal l w n.
    let s = c.args.self.now in
    let at = line_is s journal w c.args.thread c.requires.thread ∙ n in
    let marked : Some c.in-Some.mark ≡ Some l.number = sym c.in-Some.is ∙ (c.next.ensures.value ∙ ap (option_map (λ l. l.number)) at) in
    let same = call_is s journal w c.args.thread l c.requires.thread (c.facts.ensures.uses _ l at) in
    let P : CallValue → Type 0 = λ d. PostAlike c.in_ok-heard_at.field-0 d in
    learnt_next c.learn.result c.learn.new.self journal c.args.thread c.in-Some.mark l.number c.in_ok-heard_at.field-0 (next_call s.trace.lines journal c.args.thread l) c.args.reply (let f : Some c.in-Some.mark ≡ Some l.number = marked in cc) (subst P same (c.in_ok-heard_at.ensures l at)) (c.learn.ensures.learnt journal w)
