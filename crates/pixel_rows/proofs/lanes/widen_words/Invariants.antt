use Rattle.std.proofs.Common.{◌+◌, ◌-◌, ◌≤◌, [], length, get_or}
use Rattle.pixel_formats.specs.declared.formats.Format.TheVariants.{Rgba8888}
use Rattle.pixel_rows.specs.Blocks.{in_range, Rewritten}
use Rattle.pixel_rows.specs.Cells.{converted}
use Rattle.pixel_rows.proofs.lanes.widen_words.Given as goal

abbrev pub invariant-lanes : goal.invariant-lanes
invariant-lanes l = record {
  high : l.done ≤ length l.row;
  widened : Rewritten [] (in_range l.at (l.at + l.done)) (λ k _. converted 4 Rgba8888 l.from (get_or l.row (k - l.at) [])) l.fn.cells l.cells;
}

abbrev pub decreases-lanes : goal.decreases-lanes
decreases-lanes l = length l.row - l.done

abbrev pub invariant-cells : goal.invariant-cells
invariant-cells l = Rewritten [] (in_range l.at (l.at + l.k)) (λ k _. converted 4 Rgba8888 l.from (get_or l.row (k - l.at) [])) l.fn.cells l.cells
