use Rattle.std.proofs.Common.{◌≡◌, ◌≤◌, drop}
use Rattle.trace_session.specs.Runs.{StandBehind}
use Rattle.trace_outcomes.specs.Schedules.{follow}
use Rattle.trace_outcomes.proofs.histories.replay.Given as goal

abbrev pub invariant-each : goal.invariant-each
invariant-each l = record {
  trace : l.session.trace ≡ l.fn.session.trace;
  made : l.driver.made ≡ l.fn.driver.made;
  fits : l.session.trace.threads ≤ l.driver.made;
  behind : StandBehind l.journal.entries l.driver.state l.session;
  journal : follow l.session.trace l.journal.entries (drop l.thread-index l.schedule) ≡ follow l.fn.session.trace l.fn.journal.entries l.schedule;
}
