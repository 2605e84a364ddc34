use Rattle.std.proofs.Common.{◌+◌, ◌-◌, get_or, []}
use Rattle.pixel_formats.specs.Pixels.{quantize, unpack}
use Rattle.pixel_formats.specs.declared.formats.Format.TheVariants.{Rgba8888}
use Rattle.pixel_rows.specs.Blocks.{in_range, Rewritten}
use Rattle.pixel_rows.specs.Cells.{blended}
use Rattle.pixel_rows.proofs.kernels.lay_each.Given as goal

abbrev pub invariant-cells : goal.invariant-cells
invariant-cells g l = Rewritten [] (in_range l.at (l.at + l.k)) (λ k o. blended g.row.N l.f l.mask (quantize l.f (unpack Rgba8888 (get_or l.row (k - l.at) []))) o) l.fn.cells l.cells
