use Rattle.std.proofs.Common.{◌≡◌, drop}
use Rattle.std.specs.List.{filter_map}
use Rattle.driver_judge.specs.Configs.{our_config}
use Rattle.driver_judge.specs.Answers.{are_same}
use Rattle.driver_judge.proofs.answers.are_configs.Given as goal

abbrev pub invariant-each : goal.invariant-each
invariant-each l = are_same l.left (filter_map (our_config l.configs.pairs) (drop l.id-index l.theirs)) ≡ are_same l.ours (filter_map (our_config l.configs.pairs) l.theirs)
