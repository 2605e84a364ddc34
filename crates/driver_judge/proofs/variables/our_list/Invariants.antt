use Rattle.std.proofs.Common.{◌≡◌, length}
use Rattle.std.specs.Prelude.{All}
use Rattle.driver_judge.proofs.ConfigLaws.{behind}
use Rattle.egl_calls.specs.Ranges.{IsNumber}
use Rattle.driver_judge.specs.Configs.{our_list}
use Rattle.driver_judge.proofs.variables.our_list.Given as goal

abbrev pub invariant-pairs : goal.invariant-pairs
invariant-pairs l = record {
  value : behind l.found (our_list l.configs.pairs l.rest) ≡ our_list l.configs.pairs l.list;
  left : All IsNumber l.rest;
  numbers : All IsNumber l.found;
}

abbrev pub decreases-pairs : goal.decreases-pairs
decreases-pairs l = length l.rest
