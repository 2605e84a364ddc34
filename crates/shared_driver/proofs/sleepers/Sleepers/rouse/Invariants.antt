use Rattle.std.proofs.Common.{◌≤◌}
use Rattle.shared_driver.specs.Sleepers.{free}
use Rattle.shared_driver.proofs.Rousing.{IsRoused}
use Rattle.shared_driver.proofs.sleepers.Sleepers.rouse.Given as goal

abbrev pub invariant-each : goal.invariant-each
invariant-each l = record {
  roused : IsRoused (free l.driver l.entries) l.fn.self.beds l.self.beds l.woken.beds l.woken.any l.bed;
  within : l.bed ≤ 32;
}
