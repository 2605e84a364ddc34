use Rattle.std.proofs.Common.{◌≡◌, Some}
use Rattle.std.specs.List.{flat_map, range_with_len}
use Rattle.sprite_scene.specs.Calls.{smooth_texel}
use Rattle.sprite_scene.specs.Painted.{painted_row}
use Rattle.sprite_scene.proofs.texels.smooth_texels.Given as goal

abbrev pub invariant-rows : goal.invariant-rows
invariant-rows l = l.out ≡ flat_map (painted_row (smooth_texel (Some l.atlas) l.drawn) l.wide) (range_with_len 0 l.j)
