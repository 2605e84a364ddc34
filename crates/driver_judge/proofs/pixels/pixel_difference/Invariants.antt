use Rattle.std.proofs.Common.{◌≡◌, ◌-◌, fold, None}
use Rattle.std.specs.List.{range_with_len}
use Rattle.driver_judge.specs.Pixels.{counted_row}
use Rattle.driver_judge.proofs.pixels.pixel_difference.Given as goal

abbrev pub invariant-rows : goal.invariant-rows
invariant-rows l = fold (counted_row l.delta l.grid l.ours l.theirs) l.found (range_with_len l.y (l.grid.rows - l.y)) ≡ fold (counted_row l.delta l.grid l.ours l.theirs) None (range_with_len 0 l.grid.rows)
