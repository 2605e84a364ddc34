use Rattle.std.proofs.Common.{◌≡◌, drop, map, ◌++◌, pos}
use Rattle.std.specs.Prelude.{All}
use Rattle.egl_calls.specs.Ranges.{IsNumber}
use Rattle.config_match.specs.declared.table.Config.{Config}
use Rattle.config_match.proofs.choose.ids_in.Given as goal

abbrev pub invariant-loop-config : goal.invariant-loop-config
invariant-loop-config l = record {
  ids : l.ids ++ map (λ (c : Config). pos c.id) (drop l.config-index l.rows) ≡ map (λ (c : Config). pos c.id) l.rows;
  numbers : All IsNumber l.ids;
}
