use Rattle.std.proofs.Common.{◌≡◌, drop}
use Rattle.std.specs.Option.{option_or}
use Rattle.trace_model.specs.Resolve.{answers}
use Rattle.race_report.specs.Leading.{last_from}
use Rattle.race_report.proofs.leading.answer_place.Given as goal

abbrev pub invariant-each : goal.invariant-each
invariant-each l = record {
  at : l.place ≡ l.entry-index;
  rest : option_or (last_from (answers l.line.thread l.line.number) l.entry-index (drop l.entry-index l.entries)) l.found ≡ last_from (answers l.line.thread l.line.number) 0 l.entries;
}
