use Rattle.std.proofs.Common.{◌≡◌, ◌≤◌, ◌++◌, [], List}
use Rattle.egl_calls.specs.declared.entries.Entry.{Entry}
use Rattle.trace_session.specs.Runs.{StandBehind}
use Rattle.trace_outcomes.specs.Schedules.{follow, histories_by_all, left}
use Rattle.trace_outcomes.proofs.histories.push_others.Given as goal

abbrev pub invariant-each : goal.invariant-each
invariant-each l = record {
  first : l.first ≤ l.at;
  within : l.at ≤ l.session.trace.threads;
  others : (journal : List Entry) → StandBehind journal l.driver.state l.session → journal ≡ follow l.session.trace [] l.schedule → left l.session.trace l.pending.items ≡ histories_by_all l.session.trace journal l.at ++ left l.session.trace l.fn.pending.items;
}

abbrev pub decreases-each : goal.decreases-each
decreases-each l = l.at
