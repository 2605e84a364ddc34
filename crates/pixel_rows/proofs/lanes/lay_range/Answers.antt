use Rattle.std.proofs.Common.{arith}
use Rattle.pixel_rows.proofs.LaneRows.{four_more, one_laid}
use Rattle.pixel_rows.proofs.lanes.lay_range.Goals as goal

pub lanes-preserved : goal.lanes-preserved
lanes-preserved c = record {
  high = omega arith;
  laid = four_more c.args.keep c.args.take c.args.at c.lanes.done c.args.row.now _ _ _ c.lanes.invariant.laid c.lay_four.ensures;
}

pub cells-preserved : goal.cells-preserved
cells-preserved c = one_laid c.args.keep c.args.take _ c.args.row.now _ _ c.args.at _ c.cells.invariant (omega arith) (omega arith) c.laid.ensures
