use Rattle.shared_driver.specs.Tokens.{IsOf}
use Rattle.driver_check.proofs.drawing.set_scene.Given as goal

abbrev pub invariant-each : goal.invariant-each
invariant-each g l = IsOf l.shared l.thread
