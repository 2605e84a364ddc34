use Rattle.std.proofs.Common.{◌≡◌, ◌-◌}
use Rattle.texture_objects.specs.Greatest.{greatest}
use Rattle.texture_objects.specs.Levels.{are_enough}
use Rattle.texture_objects.proofs.levels.greatest_level.Given as goal

abbrev pub invariant-levels : goal.invariant-levels
invariant-levels l = l.level ≡ greatest (are_enough l.cut l.drawn) (l.k - 1)
