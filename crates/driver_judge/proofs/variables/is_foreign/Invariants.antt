use Rattle.std.proofs.Common.{◌≡◌, drop}
use Rattle.std.specs.List.{list_any}
use Rattle.driver_judge.specs.Variables.{is_foreign}
use Rattle.driver_judge.proofs.variables.is_foreign.Given as goal

abbrev pub invariant-each : goal.invariant-each
invariant-each l = list_any (is_foreign l.variables) (drop l.reference-index l.uses) ≡ list_any (is_foreign l.variables) l.uses
