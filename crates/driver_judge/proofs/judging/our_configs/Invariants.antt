use Rattle.std.proofs.Common.{◌≡◌, ◌++◌, drop, map}
use Rattle.std.specs.Prelude.{All}
use Rattle.driver_judge.specs.Configs.{our_config}
use Rattle.driver_judge.specs.Variables.{IsItem}
use Rattle.driver_judge.proofs.judging.our_configs.Given as goal

abbrev pub invariant-each : goal.invariant-each
invariant-each l = record {
  value : l.items ++ map (our_config l.configs.pairs) (drop l.number-index l.list) ≡ map (our_config l.configs.pairs) l.list;
  items : All IsItem l.items;
}
