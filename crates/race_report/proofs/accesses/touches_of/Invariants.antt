use Rattle.std.proofs.Common.{◌≡◌, ◌++◌, drop}
use Rattle.race_report.specs.Accesses.{touches_from}
use Rattle.race_report.proofs.accesses.touches_of.Given as goal

abbrev pub invariant-each : goal.invariant-each
invariant-each l = record {
  left : l.accesses ++ touches_from l.place (drop l.event-index l.events) ≡ touches_from 0 l.events;
  place : l.place ≡ l.event-index;
}
