use Rattle.std.proofs.Common.{◌≡◌, drop}
use Rattle.std.specs.Prelude.{find}
use Rattle.race_report.specs.Leading.{is_played_by}
use Rattle.race_report.proofs.leading.played.Given as goal

abbrev pub invariant-each : goal.invariant-each
invariant-each l = find (is_played_by l.entry) (drop l.line-index l.lines) ≡ find (is_played_by l.entry) l.lines
