use Rattle.std.proofs.Common.{refl, ◌-◌, ◌*◌}
use Rattle.pixel_rows.proofs.Covers.{block_apart, block_more}
use Rattle.pixel_rows.proofs.Loading.{row_loaded}
use Rattle.pixel_rows.proofs.Rewriting.{rewritten_as, rewritten_then}
use Rattle.pixel_rows.proofs.loads.load_word_rows.Goals as goal

pub rows-preserved : goal.rows-preserved
rows-preserved c =
    let row = row_loaded c.args.f c.args.from c.args.width 2 c.rows.y c.args.block.left c.args.block.right c.args.block.bottom c.args.long ((c.rows.y - c.args.block.bottom) * c.args.long) (c.args.block.right - c.args.block.left) c.args.bytes.now _ _ _
    c.requires.from c.requires.columns.0 c.requires.columns.1 refl refl c.part-source.ensures.part c.load_word_range.ensures in
    rewritten_as _ _ _ _ _ _
    (rewritten_then _ _ _ _ _ _ _ c.rows.invariant row
    (λ k t. block_apart c.args.width c.args.block c.rows.y k c.requires.columns.0 c.requires.columns.1 t))
    (λ k h. block_more c.args.width c.args.block c.rows.y k c.requires.columns.0 c.requires.columns.1 c.rows.auto.y)
