use Rattle.std.proofs.Common.{◌≡◌, ◌≤◌, length}
use Rattle.trace_session.specs.Runs.{StandBehind}
use Rattle.trace_outcomes.specs.Recordings.{walked}
use Rattle.trace_outcomes.proofs.recordings.walk.Given as goal

abbrev pub invariant-each : goal.invariant-each
invariant-each l = record {
  trace : l.session.trace ≡ l.fn.session.trace;
  made : l.session.trace.threads ≤ l.driver.made;
  behind : StandBehind l.journal.entries l.driver.state l.session;
  walked : walked l.session.trace l.journal.entries l.rest ≡ walked l.fn.session.trace l.fn.journal.entries l.entries;
}

abbrev pub decreases-each : goal.decreases-each
decreases-each l = length l.rest
