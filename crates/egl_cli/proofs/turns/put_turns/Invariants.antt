use Rattle.std.proofs.Common.{◌≡◌, ◌-◌, ◌≤◌}
use Rattle.trace_model.specs.Serial.{most_turns}
use Rattle.egl_cli.proofs.TurnLaws.{Writes}
use Rattle.egl_cli.proofs.turns.put_turns.Given as goal

abbrev pub invariant-each : goal.invariant-each
invariant-each l = record {
  trace : l.session.trace ≡ l.trace;
  made : l.session.trace.threads ≤ l.driver.made;
  writes : Writes l.trace l.session l.driver.state (most_turns l.trace - l._turn) l.fn.out l.out;
}
