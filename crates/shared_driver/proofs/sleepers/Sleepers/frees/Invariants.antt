use Rattle.std.proofs.Common.{◌≡◌, drop}
use Rattle.std.specs.List.{list_any}
use Rattle.shared_driver.specs.Sleepers.{free}
use Rattle.shared_driver.proofs.sleepers.Sleepers.frees.Given as goal

abbrev pub invariant-each : goal.invariant-each
invariant-each l = list_any (free l.driver l.entries) (drop l.bed-index l.beds) ≡ list_any (free l.driver l.entries) l.beds
