use Rattle.std.proofs.Common.{◌≡◌, ◌++◌, drop}
use Rattle.std.specs.List.{filter}
use Rattle.driver_judge.specs.Answers.{is_theirs}
use Rattle.driver_judge.proofs.answers.shared_configs.Given as goal

abbrev pub invariant-each : goal.invariant-each
invariant-each l = l.found ++ filter (is_theirs l.configs.pairs) (drop l.id-index l.ours) ≡ filter (is_theirs l.configs.pairs) l.ours
