use Rattle.std.proofs.Common.{◌≡◌, drop}
use Rattle.driver_judge.specs.Variables.{lost_in}
use Rattle.driver_judge.proofs.variables.lost_in.Given as goal

abbrev pub invariant-each : goal.invariant-each
invariant-each l = lost_in l.variables (drop l.reference-index l.uses) ≡ lost_in l.variables l.uses
