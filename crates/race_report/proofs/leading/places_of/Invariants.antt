use Rattle.std.proofs.Common.{◌≡◌, length}
use Rattle.race_report.specs.Leading.{ArePlaces}
use Rattle.race_report.proofs.leading.places_of.Given as goal

abbrev pub invariant-each : goal.invariant-each
invariant-each l = record {
  long : length l.places ≡ l.variable;
  each : ArePlaces l.lines l.entries l.places;
}
