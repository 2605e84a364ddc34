use Rattle.std.proofs.Common.{◌≤◌}
use Rattle.egl_explain.proofs.judged_entries.play_lines.Given as goal

abbrev pub invariant-each : goal.invariant-each
invariant-each l = l.session.trace.threads ≤ l.driver.made
