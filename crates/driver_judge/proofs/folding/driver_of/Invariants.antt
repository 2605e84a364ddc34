use Rattle.std.proofs.Common.{◌≡◌, ◌-◌}
use Rattle.egl_model.specs.State.{opening}
use Rattle.driver_judge.proofs.folding.driver_of.Given as goal

abbrev pub invariant-threads : goal.invariant-threads
invariant-threads l = l.driver.state ≡ opening l.log.windows l.log.video

abbrev pub decreases-threads : goal.decreases-threads
decreases-threads l = l.log.threads - l.driver.made
