use Rattle.std.proofs.Common.{◌+◌, [], get_or}
use Rattle.pixel_formats.specs.declared.formats.Format.TheVariants.{Rgba8888}
use Rattle.pixel_rows.specs.Blocks.{in_range, Rewritten}
use Rattle.pixel_rows.specs.Cells.{converted}
use Rattle.pixel_rows.proofs.kernels.read_each.Given as goal

abbrev pub invariant-cells : goal.invariant-cells
invariant-cells g l = Rewritten [] (in_range 0 l.k) (λ k _. converted 4 Rgba8888 l.f (get_or l.source (l.first + get_or l.columns k 0) [])) l.fn.row l.row
