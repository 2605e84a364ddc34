use Rattle.std.proofs.Common.{◌≡◌, ◌++◌, map}
use Rattle.std.specs.List.{range_with_len}
use Rattle.sprite_scene.specs.Calls.{draw_tex}
use Rattle.sprite_scene.specs.Draws.{tile_at}
use Rattle.sprite_scene.proofs.emitting.push_tile_row.Given as goal

abbrev pub invariant-columns : goal.invariant-columns
invariant-columns l = l.calls ≡ l.fn.calls ++ map draw_tex (map (λ column. tile_at l.tile column l.row) (range_with_len 0 l.column))
