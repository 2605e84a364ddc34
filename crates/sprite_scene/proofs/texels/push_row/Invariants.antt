use Rattle.std.proofs.Common.{◌≡◌, ◌++◌, Some}
use Rattle.std.specs.List.{flat_map, range_with_len}
use Rattle.sprite_scene.specs.Calls.{smooth_texel}
use Rattle.sprite_scene.specs.Painted.{rgba}
use Rattle.sprite_scene.proofs.texels.push_row.Given as goal

abbrev pub invariant-columns : goal.invariant-columns
invariant-columns l = l.out ≡ l.fn.out ++ flat_map (λ x. rgba (smooth_texel (Some l.atlas) l.drawn x l.j)) (range_with_len 0 l.i)
