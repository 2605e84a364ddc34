use Rattle.std.proofs.Common.{refl, arith}
use Rattle.pixel_formats.specs.Bounds.{IsBytes}
use Rattle.pixel_rows.proofs.RowBytes.{row_set}
use Rattle.pixel_rows.proofs.strips.set_row.Goals as goal

pub returns-clause-each : goal.returns-clause-each
returns-clause-each c =
    let small : IsBytes c.args.p = record { r = omega arith; g = omega arith; b = omega arith; a = omega arith } in
    row_set c.args.mask c.args.p _ _ _ c.args.row.now _ small c.know_cells.ensures c.bits_of.ensures.0 c.bits_of.ensures.1 refl c.keep_range.ensures
