use Rattle.std.proofs.Common.{◌≡◌, ◌++◌, drop, map, Some}
use Rattle.std.specs.Prelude.{All}
use Rattle.driver_judge.specs.Variables.{IsItem}
use Rattle.driver_judge.proofs.judging.our_items.Given as goal

abbrev pub invariant-each : goal.invariant-each
invariant-each l = record {
  value : l.items ++ map (λ z. Some z) (drop l.number-index l.list) ≡ map (λ z. Some z) l.list;
  items : All IsItem l.items;
}
