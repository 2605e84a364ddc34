use Rattle.std.proofs.Common.{◌≡◌, ◌++◌, ◌-◌, ◌≤◌, length}
use Rattle.trace_outcomes.specs.Outcomes.{rising}
use Rattle.trace_outcomes.proofs.ordering.rising.Given as goal

abbrev pub invariant-each : goal.invariant-each
invariant-each l = record {
  rising : l.ordered.items ++ rising l.first l.place (length l.first.answers - l.place) l.left.items ≡ rising l.first 0 (length l.first.answers) l.fn.others.items;
  end : l.place-end ≡ length l.first.answers;
  within : l.place ≤ l.place-end;
}
