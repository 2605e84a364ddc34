use Rattle.std.proofs.Common.{◌≡◌, drop}
use Rattle.std.specs.List.{list_any}
use Rattle.driver_judge.specs.Configs.{are_alike}
use Rattle.driver_judge.proofs.configs.is_repeated.Given as goal

abbrev pub invariant-each : goal.invariant-each
invariant-each l = list_any (are_alike l.config) (drop l.other-index l.before) ≡ list_any (are_alike l.config) l.before
