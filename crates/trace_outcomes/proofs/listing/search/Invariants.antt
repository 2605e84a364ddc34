use Rattle.std.proofs.Common.{◌≡◌, ◌≤◌, ◌+◌, ◌-◌, length}
use Rattle.trace_outcomes.specs.Histories.{histories}
use Rattle.trace_outcomes.specs.Outcomes.{with_all, met}
use Rattle.trace_outcomes.specs.Schedules.{left}
use Rattle.trace_outcomes.specs.declared.listing.TheConstants.{MOST_HISTORIES}
use Rattle.trace_outcomes.proofs.listing.search.Given as goal

abbrev pub invariant-each : goal.invariant-each
invariant-each l = record {
  listed : with_all l.trace l.found (left l.trace l.pending.items) ≡ met l.trace;
  count : l.histories + length (left l.trace l.pending.items) ≡ length (histories l.trace);
  few : l.histories ≤ MOST_HISTORIES;
}

abbrev pub decreases-each : goal.decreases-each
decreases-each l = MOST_HISTORIES - l.histories
