use Rattle.std.proofs.Common.{◌+◌, ◌-◌, ◌≤◌, [], length, get_or}
use Rattle.pixel_rows.specs.Blocks.{in_range, Rewritten}
use Rattle.pixel_rows.specs.Lanes.{laid}
use Rattle.pixel_rows.proofs.lanes.lay_range.Given as goal

abbrev pub invariant-lanes : goal.invariant-lanes
invariant-lanes l = record {
  high : l.done ≤ length l.row;
  laid : Rewritten [] (in_range l.at (l.at + l.done)) (λ k o. laid l.keep l.take (get_or l.row (k - l.at) []) o) l.fn.cells l.cells;
}

abbrev pub decreases-lanes : goal.decreases-lanes
decreases-lanes l = length l.row - l.done

abbrev pub invariant-cells : goal.invariant-cells
invariant-cells l = Rewritten [] (in_range l.at (l.at + l.k)) (λ k o. laid l.keep l.take (get_or l.row (k - l.at) []) o) l.fn.cells l.cells
