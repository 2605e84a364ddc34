use Rattle.shared_driver.specs.Tokens.{IsOf}
use Rattle.driver_check.proofs.late_texels.blackens.Given as goal

abbrev pub invariant-seeing : goal.invariant-seeing
invariant-seeing g l = IsOf l.shared l.thread
