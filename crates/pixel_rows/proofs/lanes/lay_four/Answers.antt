use Rattle.std.proofs.Common.{refl, arith}
use Rattle.pixel_rows.proofs.LaneRows.{four_laid}
use Rattle.pixel_rows.proofs.lanes.lay_four.Goals as goal

pub returns : goal.returns
returns c =
    four_laid c.args.keep c.args.take c.args.at c.args.row.now _ _ _ _ _ _ _ c.requires.range c.requires.four (omega arith) (omega arith) c.load-v.ensures.cells c.load-new.ensures.cells
    c.load-v.ensures.bytes c.load-new.ensures.bytes c.requires.kept c.requires.taken refl c.store.ensures
