use Rattle.std.proofs.Common.{◌≡◌, ◌+◌, ◌-◌}
use Rattle.texture_objects.specs.Levels.{each_passes, has_mipmaps, is_stored, level_at, mipmap_of}
use Rattle.texture_objects.proofs.levels.has_mipmaps.Given as goal

abbrev pub invariant-levels : goal.invariant-levels
invariant-levels l = each_passes (λ j. is_stored (level_at l.levels j) (mipmap_of l.base j)) l.k (l.last + 1 - l.k) ≡ has_mipmaps l.levels l.base
