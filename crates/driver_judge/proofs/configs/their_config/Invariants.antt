use Rattle.std.proofs.Common.{◌≡◌, drop, find}
use Rattle.driver_judge.specs.Configs.{has_ours}
use Rattle.driver_judge.proofs.configs.their_config.Given as goal

abbrev pub invariant-each : goal.invariant-each
invariant-each l = find (has_ours l.ours) (drop l.pair-index l.pairs) ≡ find (has_ours l.ours) l.pairs
