use Rattle.std.proofs.Common.{◌≡◌}
use Rattle.driver_check.proofs.waits.expect_rows.Given as goal

abbrev pub invariant-each : goal.invariant-each
invariant-each g l = l.driver.made ≡ 2
