use Rattle.egl_explain.proofs.ThreadLaws.{threads_below}
use Rattle.egl_explain.proofs.explaining.put_trace.Goals as goal

pub put_ended-requires-clause-threads : goal.put_ended-requires-clause-threads
put_ended-requires-clause-threads g c = threads_below c.args.trace.now c.in-Ok.run'.journal.entries c.in_order.ensures c.in-Ok.ensures.complete.0.journal

pub put_stalled-requires-clause-threads : goal.put_stalled-requires-clause-threads
put_stalled-requires-clause-threads g c =
    let stalled = rw c.in-Err-Stalled.field-0-is at c.in-Err-Stalled.ensures.stalled in
    threads_below c.args.trace.now c.in-Err-Stalled.run'.journal.entries c.in_order.ensures stalled.0.journal

pub put_stalled-requires-clause-stalled : goal.put_stalled-requires-clause-stalled
put_stalled-requires-clause-stalled g c = (rw c.in-Err-Stalled.field-0-is at c.in-Err-Stalled.ensures.stalled).1
