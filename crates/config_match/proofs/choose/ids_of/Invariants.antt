use Rattle.std.proofs.Common.{◌≡◌, drop, map, ◌++◌}
use Rattle.std.specs.Prelude.{All}
use Rattle.egl_calls.specs.Ranges.{IsNumber}
use Rattle.config_match.specs.Configs.{id_of_key}
use Rattle.config_match.proofs.choose.ids_of.Given as goal

abbrev pub invariant-loop-key : goal.invariant-loop-key
invariant-loop-key l = record {
  ids : l.ids ++ map id_of_key (drop l.key-index l.keys) ≡ map id_of_key l.keys;
  numbers : All IsNumber l.ids;
}
