use Rattle.std.proofs.Common.{◌≡◌}
use Rattle.egl_explain.proofs.races.touched_by.Given as goal

abbrev pub invariant-each : goal.invariant-each
invariant-each l = l.driver.made ≡ l.fn.driver.made
