use Rattle.std.proofs.Common.{◌∙◌, sym}
use Rattle.pixel_rows.proofs.RowBytes.{row_copied, row_laid}
use Rattle.pixel_rows.proofs.runs.lay_fours.Goals as goal

pub returns-then-is_whole : goal.returns-then-is_whole
returns-then-is_whole c =
    row_copied c.args.f c.args.at c.args.mask c.args.row.now _ _ c.requires.form (sym c.is_whole.ensures ∙ c.if-is_whole.true) c.copy_range.ensures

pub returns-else-is_whole : goal.returns-else-is_whole
returns-else-is_whole c =
    row_laid c.args.f c.args.at c.args.mask c.mask_in.result _ _ c.args.row.now _ _ c.requires.form c.know_cells.ensures c.know_cells-2.ensures c.mask_in.ensures c.bits_of.ensures.0 c.bits_of.ensures.1 c.lay_range.ensures
