use Rattle.std.proofs.Common.{◌≡◌, ◌++◌, drop}
use Rattle.race_report.specs.Accesses.{users}
use Rattle.race_report.proofs.accesses.add_users.Given as goal

abbrev pub invariant-each : goal.invariant-each
invariant-each l = l.seconds ++ users l.first l.accesses (drop l.thing-index l.things) ≡ l.fn.seconds ++ users l.first l.accesses l.things
