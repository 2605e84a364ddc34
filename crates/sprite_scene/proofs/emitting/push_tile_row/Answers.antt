use Rattle.sprite_scene.proofs.TexelLaws.{call_more}
use Rattle.sprite_scene.proofs.emitting.push_tile_row.Goals as goal

pub columns-preserved : goal.columns-preserved
columns-preserved c =
    call_more c.args.tile.now c.args.row c.columns.column c.args.calls.now c.columns.calls c.push_draw.new.self c.tile_at.result c.columns.invariant c.in_ok-push_draw.ensures c.tile_at.ensures.value
