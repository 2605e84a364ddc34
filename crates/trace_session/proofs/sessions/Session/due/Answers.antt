use Rattle.std.proofs.Common.{◌<◌, ◌≤◌, arith, sym, ◌∙◌}
use Rattle.trace_session.proofs.DueLaws.{due_free, due_held, due_nowhere, there_is}
use Rattle.trace_session.proofs.sessions.Session.due.Goals as goal

pub returns-then-thread-threads-clause-learnt : goal.returns-then-thread-threads-clause-learnt
returns-then-thread-threads-clause-learnt c journal w =
    let far : c.args.self.now.trace.threads ≤ c.args.thread = omega (arith, c.if-thread-threads.true, c.threads.ensures) in
    due_nowhere c.args.self.now.trace journal c.args.driver.now.state c.args.thread far

pub returns-then-blocked-clause-learnt : goal.returns-then-blocked-clause-learnt
returns-then-blocked-clause-learnt c journal w = due_held c.args.self.now.trace journal c.args.driver.now.state c.args.thread (sym (c.blocked.ensures journal w) ∙ c.if-blocked.true)

pub returns-clause-line : goal.returns-clause-line
returns-clause-line c = there_is c.next.result _ c.next.ensures.value

pub returns-clause-learnt : goal.returns-clause-learnt
returns-clause-learnt c journal w =
    let below : c.args.thread < c.args.self.now.trace.threads = omega (arith, c.if-thread-threads.false, c.threads.ensures) in
    c.next.ensures.learnt journal w ∙ due_free c.args.self.now.trace journal c.args.driver.now.state c.args.thread below (sym (c.blocked.ensures journal w) ∙ c.if-blocked.false)
