use Rattle.std.proofs.Common.{◌≡◌, ℕ, ◌++◌, map, arith, ap, ◌∙◌}
use Rattle.std.specs.List.{flat_map, range_with_len}
use Rattle.sprite_scene.specs.Calls.{draw_tex}
use Rattle.sprite_scene.specs.Draws.{tile_row}
use Rattle.sprite_scene.proofs.TexelLaws.{tiles_are}
use Rattle.sprite_scene.proofs.emitting.push_tiles.Goals as goal

pub returns : goal.returns
returns c =
    let tile = c.args.tile.now in
    let all : c.rows.row ≡ tile.rows = omega (arith, c.rows-test.false, c.rows.auto.row-end) in
    c.rows.invariant
    ∙ ap (λ (n : ℕ). c.args.calls.now ++ map draw_tex (flat_map (tile_row tile) (range_with_len 0 n))) all
    ∙ ap (λ ss. c.args.calls.now ++ map draw_tex ss) (tiles_are tile)
