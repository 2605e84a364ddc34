use Rattle.std.proofs.Common.{◌≡◌, drop}
use Rattle.std.specs.Prelude.{find}
use Rattle.trace_outcomes.specs.Outcomes.{made_here}
use Rattle.trace_outcomes.proofs.answers.maker.Given as goal

abbrev pub invariant-each : goal.invariant-each
invariant-each l = find (made_here l.entries l.handle) (drop l.line-index l.lines) ≡ find (made_here l.entries l.handle) l.lines
