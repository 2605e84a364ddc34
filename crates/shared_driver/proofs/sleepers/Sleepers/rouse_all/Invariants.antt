use Rattle.std.proofs.Common.{◌≤◌}
use Rattle.shared_driver.specs.Sleepers.{is_taken}
use Rattle.shared_driver.proofs.Rousing.{IsRoused}
use Rattle.shared_driver.proofs.sleepers.Sleepers.rouse_all.Given as goal

abbrev pub invariant-each : goal.invariant-each
invariant-each l = record {
  roused : IsRoused is_taken l.fn.self.beds l.self.beds l.woken.beds l.woken.any l.bed;
  within : l.bed ≤ 32;
}
