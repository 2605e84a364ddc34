use Rattle.std.proofs.Common.{◌≡◌, ◌++◌, drop, map}
use Rattle.driver_judge.specs.Configs.{AreOurs, paired}
use Rattle.driver_judge.proofs.configs.same_pairs.Given as goal

abbrev pub invariant-each : goal.invariant-each
invariant-each l = record {
  value : l.pairs.items ++ map (λ z. paired z z) (drop l.id-index l.ids) ≡ map (λ z. paired z z) l.ids;
  ours : AreOurs l.pairs.items;
}
