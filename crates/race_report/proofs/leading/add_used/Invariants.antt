use Rattle.std.proofs.Common.{◌≡◌, ◌++◌, drop}
use Rattle.race_report.specs.Leading.{used_places}
use Rattle.race_report.proofs.leading.add_used.Given as goal

abbrev pub invariant-each : goal.invariant-each
invariant-each l = l.behind ++ used_places l.lines l.entries (drop l.r-index l.uses) ≡ l.fn.behind ++ used_places l.lines l.entries l.uses
