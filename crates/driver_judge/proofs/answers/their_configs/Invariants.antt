use Rattle.std.proofs.Common.{◌≡◌, ◌++◌, drop}
use Rattle.std.specs.List.{filter_map}
use Rattle.driver_judge.specs.Configs.{their_config}
use Rattle.driver_judge.specs.Answers.{each_some}
use Rattle.driver_judge.proofs.answers.their_configs.Given as goal

abbrev pub invariant-each : goal.invariant-each
invariant-each l = l.found ++ each_some (filter_map (their_config l.configs.pairs) (drop l.id-index l.ours)) ≡ each_some (filter_map (their_config l.configs.pairs) l.ours)
