use Rattle.std.proofs.Common.{◌≡◌, drop}
use Rattle.std.specs.List.{list_any}
use Rattle.shared_driver.specs.Sleepers.{frees}
use Rattle.shared_driver.proofs.sleepers.Bed.is_freed_by.Given as goal

abbrev pub invariant-each : goal.invariant-each
invariant-each l = list_any (frees l.self l.can_end) (drop l.entry-index l.entries) ≡ list_any (frees l.self l.can_end) l.entries
