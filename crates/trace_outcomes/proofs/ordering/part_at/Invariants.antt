use Rattle.std.proofs.Common.{◌≡◌, ◌++◌, filter, not}
use Rattle.trace_outcomes.specs.Outcomes.{agrees_at}
use Rattle.trace_outcomes.proofs.ordering.part_at.Given as goal

abbrev pub invariant-each : goal.invariant-each
invariant-each l = record {
  differing : l.differing.items ++ filter (λ o. not (agrees_at l.first l.place o)) l.outcome-iterator.rest.items ≡ filter (λ o. not (agrees_at l.first l.place o)) l.fn.outcomes.items;
  agreeing : l.agreeing.items ++ filter (agrees_at l.first l.place) l.outcome-iterator.rest.items ≡ filter (agrees_at l.first l.place) l.fn.outcomes.items;
}
