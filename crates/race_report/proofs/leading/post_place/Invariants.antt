use Rattle.std.proofs.Common.{◌≡◌, drop}
use Rattle.std.specs.List.{position_from}
use Rattle.trace_model.specs.Turns.{posts}
use Rattle.race_report.proofs.leading.post_place.Given as goal

abbrev pub invariant-each : goal.invariant-each
invariant-each l = record {
  at : l.place ≡ l.entry-index;
  rest : position_from (posts l.number) l.entry-index (drop l.entry-index l.entries) ≡ position_from (posts l.number) 0 l.entries;
}
