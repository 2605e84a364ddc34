use denote.Param.Send.{sendable}
use Rattle.std.proofs.Common.{[], slice_index_or, subst}
use Rattle.shared_driver.specs.declared.tokens.Thread.{Thread as AThread}
use Rattle.shared_driver.specs.Tokens.{Goes, token_of}
use Rattle.shared_driver.proofs.Sending.{shared_send, shared_sync, thread_send}
use Rattle.shared_driver.proofs.threads.finish_all.Goals as goal

pub needs_send-requires-send-T : goal.needs_send-requires-send-T
needs_send-requires-send-T g c κs = let a = shared_send in search sendable depth 20

pub for_each_mut-requires-send-T : goal.for_each_mut-requires-send-T
for_each_mut-requires-send-T g c κs within = let a = thread_send in search sendable depth 20

pub for_each_mut-requires-sync-F : goal.for_each_mut-requires-sync-F
for_each_mut-requires-sync-F g c κs within = let a = shared_sync in let b = c.type_bounds.sync-R in search sendable depth 20

pub returns-clause-seen : goal.returns-clause-seen
returns-clause-seen g c = λ k d lt.
    let at = (c.for_each_mut.ensures k d lt).1 in
    subst (λ (x : AThread). Goes (token_of x) [] (token_of (slice_index_or c.for_each_mut.new.s k d))) at.argument_is (subst (λ (y : AThread). Goes (token_of at.argument.now) [] (token_of y)) at.left at.call.1)
