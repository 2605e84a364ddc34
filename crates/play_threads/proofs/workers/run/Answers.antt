use Rattle.play_threads.proofs.PlayLaws.{unbegun}
use Rattle.play_threads.proofs.workers.run.Goals as goal

pub returns-else-count_in : goal.returns-else-count_in
returns-else-count_in g c = unbegun c.args.trace.now c.args.shared.now c.args.worker.now c.requires.ready
