use Rattle.std.proofs.Common.{◌≡◌, drop}
use Rattle.driver_judge.specs.Maps.{without_names}
use Rattle.driver_judge.proofs.maps.Both.take_names.Given as goal

abbrev pub invariant-each : goal.invariant-each
invariant-each l = without_names l.group l.kind (drop l.name-index l.names) l.self ≡ without_names l.group l.kind l.names l.fn.self
