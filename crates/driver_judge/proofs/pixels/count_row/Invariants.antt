use Rattle.std.proofs.Common.{◌≡◌, ◌+◌, ◌-◌, fold}
use Rattle.std.specs.List.{range_with_len}
use Rattle.driver_judge.specs.Pixels.{counted}
use Rattle.driver_judge.proofs.pixels.count_row.Given as goal

abbrev pub invariant-columns : goal.invariant-columns
invariant-columns l = fold (counted l.delta l.grid l.ours l.theirs l.y) l.found (range_with_len l.x (l.grid.columns + 1 - l.x)) ≡ fold (counted l.delta l.grid l.ours l.theirs l.y) l.fn.found (range_with_len 0 (l.grid.columns + 1))
