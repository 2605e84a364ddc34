use denote.Param.Send.{sendable}
use Rattle.std.proofs.Crossing.{crosses}
use Rattle.std.proofs.lemmas.List.Elements.{All-weaker}
use Rattle.shared_driver.proofs.Sending.{shared_sync}
use Rattle.play_threads.specs.Plays.{IsReady, IsThrough}
use Rattle.play_threads.proofs.PlayLaws.{unbegun}
use Rattle.play_threads.proofs.Sending.{chains_sync, start_sync, trace_sync, worker_send}
use Rattle.play_threads.proofs.workers.run_all.Goals as goal

pub returns-then-not-hired-clause-through : goal.returns-then-not-hired-clause-through
returns-then-not-hired-clause-through g c =
    let t = c.args.trace.now in
    let s = c.args.shared.now in
    All-weaker (IsReady t s) (IsThrough t s) (unbegun t s) c.args.workers.now.items c.requires.ready

pub for_each_mut-requires-send-T : goal.for_each_mut-requires-send-T
for_each_mut-requires-send-T g c κs within = let a = worker_send in search (sendable, crosses) depth 20

pub for_each_mut-requires-sync-F : goal.for_each_mut-requires-sync-F
for_each_mut-requires-sync-F g c κs within = let a = shared_sync in let b = c.type_bounds.sync-R in let d = c.type_bounds.sync-G in let e = trace_sync in let f = start_sync in let h = chains_sync in search (sendable, crosses) depth 20
