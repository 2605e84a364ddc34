use Rattle.std.proofs.Common.{◌≡◌, ◌++◌, drop}
use Rattle.race_report.specs.Accesses.{places_behind}
use Rattle.race_report.proofs.accesses.add_places.Given as goal

abbrev pub invariant-each : goal.invariant-each
invariant-each l = l.seconds ++ places_behind l.first (drop l.access-index l.accesses) ≡ l.fn.seconds ++ places_behind l.first l.accesses
