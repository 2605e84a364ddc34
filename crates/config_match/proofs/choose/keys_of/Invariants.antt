use Rattle.std.proofs.Common.{◌≡◌, drop, map, ◌++◌}
use Rattle.std.specs.Prelude.{filter}
use Rattle.config_match.specs.Configs.{matches, key}
use Rattle.config_match.proofs.choose.keys_of.Given as goal

abbrev pub invariant-loop-config : goal.invariant-loop-config
invariant-loop-config l = l.keys.items ++ map (key l.list) (filter (matches l.list) (drop l.config-index l.rows)) ≡ map (key l.list) (filter (matches l.list) l.rows)
