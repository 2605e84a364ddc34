use Rattle.std.proofs.Common.{◌≡◌, inr, ap, sym, true, ◌∙◌}
use Rattle.egl_calls.specs.Calls.{ReplyValue}
use Rattle.egl_calls.specs.Errors.{is_waiting}
use Rattle.shared_driver.specs.Tokens.{token_of}
use Rattle.shared_driver.proofs.Learning.{after_wait}
use Rattle.shared_driver.proofs.tokens.Shared.call.Goals as goal

pub returns-then-is_waiting-clause-ok : goal.returns-then-is_waiting-clause-ok
returns-then-is_waiting-clause-ok g c =
    let begun = c.in_ok-reply.ensures in
    let waits : is_waiting c.in_ok-reply.reply.outcome ≡ true = ap (λ (r : ReplyValue). is_waiting r.outcome) (sym c.reply.view_is) ∙ (sym c.is_waiting.ensures ∙ c.if-is_waiting.true) in
    inr (after_wait (token_of c.args.thread.now) (token_of c.begin.new.thread) (token_of c.end_wait.new.thread) c.args.mark c.args.call c.in_ok-reply.reply c.end_wait.result
    begun.same c.end_wait.ensures.same waits c.end_wait.ensures.reply begun.ok begun.mine c.end_wait.ensures.ended)
