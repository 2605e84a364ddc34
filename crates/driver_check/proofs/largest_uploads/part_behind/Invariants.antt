use Rattle.std.proofs.Common.{◌<◌}
use Rattle.driver_check.proofs.largest_uploads.part_behind.Given as goal

abbrev pub invariant-each : goal.invariant-each
invariant-each g l = 0 < l.driver.made
