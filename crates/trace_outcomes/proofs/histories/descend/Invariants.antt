use Rattle.std.proofs.Common.{◌≡◌, ◌≤◌, ◌++◌, []}
use Rattle.trace_model.specs.TurnsLeft.{turns_left}
use Rattle.trace_reader.specs.Order.{IsTrace}
use Rattle.trace_session.specs.Runs.{StandBehind}
use Rattle.trace_check.proofs.HoldsLaws.{Plays}
use Rattle.trace_outcomes.specs.Histories.{histories_behind}
use Rattle.trace_outcomes.specs.Schedules.{follow, left}
use Rattle.trace_outcomes.proofs.histories.descend.Given as goal

abbrev pub invariant-each : goal.invariant-each
invariant-each l = record {
  trace : l.session.trace ≡ l.fn.session.trace;
  made : l.session.trace.threads ≤ l.driver.made;
  behind : StandBehind l.journal.entries l.driver.state l.session;
  is_trace : IsTrace l.session.trace;
  plays : Plays l.session.trace l.journal.entries;
  at : l.journal.entries ≡ follow l.session.trace [] l.schedule;
  histories : histories_behind l.session.trace l.journal.entries ++ left l.session.trace l.pending.items ≡ histories_behind l.fn.session.trace l.fn.journal.entries ++ left l.fn.session.trace l.fn.pending.items;
}

abbrev pub decreases-each : goal.decreases-each
decreases-each l = turns_left l.session.trace l.journal.entries
