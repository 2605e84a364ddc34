use Rattle.std.proofs.Common.{refl, arith}
use Rattle.pixel_formats.specs.Bounds.{IsBytes}
use Rattle.pixel_rows.proofs.RowBytes.{row_scaled}
use Rattle.pixel_rows.proofs.strips.scale_row.Goals as goal

pub returns-clause-each : goal.returns-clause-each
returns-clause-each c =
    let small : IsBytes c.args.by = record { r = omega arith; g = omega arith; b = omega arith; a = omega arith } in
    row_scaled c.args.by _ _ c.args.row.now _ small refl c.know_cells.ensures refl c.scale_range.ensures
