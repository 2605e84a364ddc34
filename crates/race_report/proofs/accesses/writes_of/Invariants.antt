use Rattle.std.proofs.Common.{◌≡◌, ◌++◌, drop}
use Rattle.race_report.specs.Accesses.{writes_from}
use Rattle.race_report.proofs.accesses.writes_of.Given as goal

abbrev pub invariant-each : goal.invariant-each
invariant-each l = record {
  left : l.accesses ++ writes_from l.place (drop l.event-index l.events) ≡ writes_from 0 l.events;
  place : l.place ≡ l.event-index;
}
