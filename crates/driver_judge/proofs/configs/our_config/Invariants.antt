use Rattle.std.proofs.Common.{◌≡◌, drop, find}
use Rattle.driver_judge.specs.Configs.{has_theirs}
use Rattle.driver_judge.proofs.configs.our_config.Given as goal

abbrev pub invariant-each : goal.invariant-each
invariant-each l = find (has_theirs l.theirs) (drop l.pair-index l.pairs) ≡ find (has_theirs l.theirs) l.pairs
