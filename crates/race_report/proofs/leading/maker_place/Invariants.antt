use Rattle.std.proofs.Common.{◌≡◌, drop}
use Rattle.std.specs.List.{position_from}
use Rattle.race_report.specs.Leading.{makes}
use Rattle.race_report.proofs.leading.maker_place.Given as goal

abbrev pub invariant-each : goal.invariant-each
invariant-each l = record {
  at : l.place ≡ l.entry-index;
  rest : position_from (makes l.handle) l.entry-index (drop l.entry-index l.entries) ≡ position_from (makes l.handle) 0 l.entries;
}
