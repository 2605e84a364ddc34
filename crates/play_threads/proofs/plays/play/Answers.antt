use Rattle.play_threads.proofs.PlayLaws.{serial_err, serial_ok}
use Rattle.play_threads.proofs.plays.play.Goals as goal

pub returns-in-Ok-Neither-clause-complete : goal.returns-in-Ok-Neither-clause-complete
returns-in-Ok-Neither-clause-complete g c = serial_ok c.args.trace.now c.in_order.ensures c.run_serial.result c.run_serial.ensures.complete

pub returns-in-Ok-Neither-clause-stalled : goal.returns-in-Ok-Neither-clause-stalled
returns-in-Ok-Neither-clause-stalled g c = serial_err c.args.trace.now c.in_order.ensures c.run_serial.result c.run_serial.ensures.stalled
