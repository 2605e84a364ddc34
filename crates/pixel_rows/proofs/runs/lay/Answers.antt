use Rattle.std.proofs.Common.{◌∙◌, sym}
use Rattle.pixel_rows.proofs.RowBytes.{row_blended, row_narrowed}
use Rattle.pixel_rows.proofs.runs.lay.Goals as goal

pub returns-then-is_whole : goal.returns-then-is_whole
returns-then-is_whole g c =
    row_narrowed c.args.f g.row.N c.args.at c.args.mask c.args.row.now _ _ c.requires.form (sym c.is_whole.ensures ∙ c.if-is_whole.true) c.convert_range.ensures

pub returns-else-is_whole : goal.returns-else-is_whole
returns-else-is_whole g c =
    row_blended c.args.f g.row.N c.args.at c.args.mask _ c.args.row.now _ _ c.requires.form c.mask_in.ensures c.lay_masked.ensures
