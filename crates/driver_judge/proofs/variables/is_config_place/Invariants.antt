use Rattle.std.proofs.Common.{◌≡◌, drop}
use Rattle.std.specs.List.{list_any}
use Rattle.driver_judge.specs.Variables.{is_config_place}
use Rattle.driver_judge.proofs.variables.is_config_place.Given as goal

abbrev pub invariant-each : goal.invariant-each
invariant-each l = list_any is_config_place (drop l.reference-index l.uses) ≡ list_any is_config_place l.uses
