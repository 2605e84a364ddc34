use Rattle.std.proofs.Common.{◌≡◌, drop}
use Rattle.std.specs.Prelude.{find}
use Rattle.trace_model.specs.Resolve.{assigns}
use Rattle.race_report.proofs.leading.assigning.Given as goal

abbrev pub invariant-each : goal.invariant-each
invariant-each l = find (assigns l.variable) (drop l.line-index l.lines) ≡ find (assigns l.variable) l.lines
