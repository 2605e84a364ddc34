use Rattle.std.proofs.Common.{◌≡◌, drop}
use Rattle.std.specs.Prelude.{find}
use Rattle.race_report.specs.Leading.{begins}
use Rattle.race_report.proofs.leading.begun_with.Given as goal

abbrev pub invariant-each : goal.invariant-each
invariant-each l = find (begins l.end) (drop l.entry-index l.entries) ≡ find (begins l.end) l.entries
