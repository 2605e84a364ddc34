use Rattle.std.proofs.Common.{◌≡◌, ◌++◌, drop}
use Rattle.std.specs.Prelude.{map}
use Rattle.race_report.specs.Accesses.{access}
use Rattle.race_report.proofs.accesses.add_things.Given as goal

abbrev pub invariant-each : goal.invariant-each
invariant-each l = l.accesses ++ map (access l.place) (drop l.thing-index l.things) ≡ l.fn.accesses ++ map (access l.place) l.things
