use Rattle.std.proofs.Common.{arith}
use Rattle.pixel_rows.proofs.RowBytes.{read_more}
use Rattle.pixel_rows.proofs.kernels.read_each.Goals as goal

pub cells-preserved : goal.cells-preserved
cells-preserved g c = read_more c.args.f _ c.args.source.now c.args.columns.now c.args.first _ _ c.cells.k _ _ c.cells.invariant (omega arith) c.requires.range
    (c.requires.columns c.cells.k (omega arith)) c.index-source-first.is c.pixel_in-pixel.ensures c.cell_in.ensures
