use Rattle.std.proofs.Common.{arith}
use Rattle.pixel_rows.proofs.RowBytes.{lay_more}
use Rattle.pixel_rows.proofs.kernels.lay_each.Goals as goal

pub cells-preserved : goal.cells-preserved
cells-preserved g c = lay_more g.row.N c.args.f c.args.mask _ _ _ _ c.args.row.now _ _ c.args.at c.cells.k _ _ c.cells.invariant (omega arith) (omega arith) c.index-cells-at.is
    c.pixel_in-old.ensures c.pixel_in-new.ensures c.quantize.ensures c.masked.ensures c.cell_in.ensures
