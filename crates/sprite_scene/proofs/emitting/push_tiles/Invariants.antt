use Rattle.std.proofs.Common.{◌≡◌, ◌++◌, map}
use Rattle.std.specs.List.{flat_map, range_with_len}
use Rattle.sprite_scene.specs.Calls.{draw_tex}
use Rattle.sprite_scene.specs.Draws.{tile_row}
use Rattle.sprite_scene.proofs.emitting.push_tiles.Given as goal

abbrev pub invariant-rows : goal.invariant-rows
invariant-rows l = l.calls ≡ l.fn.calls ++ map draw_tex (flat_map (tile_row l.tile) (range_with_len 0 l.row))
