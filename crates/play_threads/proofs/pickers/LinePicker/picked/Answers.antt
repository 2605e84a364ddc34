use Rattle.std.proofs.Common.{sym, ◌∙◌}
use Rattle.play_threads.proofs.PickLaws.{calls_on, picked_line, waits_on}
use Rattle.play_threads.proofs.pickers.LinePicker.picked.Goals as goal

pub returns-then-not-blocked-clause-pick : goal.returns-then-not-blocked-clause-pick
returns-then-not-blocked-clause-pick c es knows halted =
    let s = c.args.self.now.session in
    picked_line s.trace es c.args.driver.now.state c.args.self.now.thread c.in-Some.mark c.in_ok-call.field-0 (c.in-Some.ensures.learnt es knows) (sym (c.blocked.ensures es knows) ∙ c.if-not-blocked.true) (λ l n. c.in_ok-call.ensures.value es l knows n)

pub returns-then-not-blocked-clause-goes_on : goal.returns-then-not-blocked-clause-goes_on
returns-then-not-blocked-clause-goes_on c es knows halted =
    let s = c.args.self.now.session in
    calls_on s.trace es c.args.driver.now.state c.args.self.now.thread c.in-Some.mark c.requires.thread (c.in-Some.ensures.learnt es knows) (sym (c.blocked.ensures es knows) ∙ c.if-not-blocked.true) (sym halted ∙ c.if-self.false)

pub returns-else-has_stalled-clause-goes_on : goal.returns-else-has_stalled-clause-goes_on
returns-else-has_stalled-clause-goes_on c es knows halted =
    let s = c.args.self.now.session in
    waits_on s.trace es c.args.driver.now c.args.self.now.thread c.in-Some.mark (c.in-Some.ensures.learnt es knows) (sym (c.has_stalled.ensures es knows) ∙ c.if-has_stalled.false) (sym halted ∙ c.if-self.false)
