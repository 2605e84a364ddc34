use Rattle.std.proofs.Common.{◌≡◌, [], drop, take}
use Rattle.driver_judge.specs.Configs.{AreOurs, pairs_behind}
use Rattle.driver_judge.proofs.configs.pairs_of.Given as goal

abbrev pub invariant-each : goal.invariant-each
invariant-each l = record {
  value : pairs_behind (take l.k l.configs) l.pairs.items (drop l.k l.configs) ≡ pairs_behind [] [] l.configs;
  ours : AreOurs l.pairs.items;
}
