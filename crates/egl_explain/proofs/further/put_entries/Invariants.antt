use Rattle.std.proofs.Common.{◌≤◌}
use Rattle.egl_explain.proofs.further.put_entries.Given as goal

abbrev pub invariant-each : goal.invariant-each
invariant-each g l = l.session.trace.threads ≤ l.driver.made
