use Rattle.std.proofs.Common.{◌≡◌, ◌++◌, drop}
use Rattle.egl_outcomes.specs.Columns.{columns}
use Rattle.egl_outcomes.proofs.columns.columns.Given as goal

abbrev pub invariant-each : goal.invariant-each
invariant-each l = l.found.items ++ columns l.outcomes l.place (drop l.place l.lines) ≡ columns l.outcomes 0 l.lines
