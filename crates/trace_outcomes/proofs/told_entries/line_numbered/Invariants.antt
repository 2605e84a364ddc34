use Rattle.std.proofs.Common.{◌≡◌, ◌==◌, drop}
use Rattle.std.specs.Prelude.{find}
use Rattle.trace_outcomes.proofs.told_entries.line_numbered.Given as goal

abbrev pub invariant-each : goal.invariant-each
invariant-each l = find (λ x. x.number == l.number) (drop l.line-index l.lines) ≡ find (λ x. x.number == l.number) l.lines
