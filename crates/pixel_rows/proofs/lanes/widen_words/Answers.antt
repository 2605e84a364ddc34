use Rattle.std.proofs.Common.{arith}
use Rattle.pixel_formats.specs.declared.formats.Format.TheVariants.{Rgba8888}
use Rattle.pixel_rows.proofs.LaneWords.{eight_stored, one_widened}
use Rattle.pixel_rows.specs.Cells.{converted}
use Rattle.pixel_rows.proofs.lanes.widen_words.Goals as goal

pub lanes-preserved : goal.lanes-preserved
lanes-preserved c = record {
  high = omega arith;
  widened = eight_stored (converted 4 Rgba8888 c.args.from) c.args.at c.lanes.done c.args.row.now _ _ _ _ _ _ (omega arith) c.widen_eight.ensures.low c.widen_eight.ensures.high c.lanes.invariant.widened
      c.store.ensures c.store-in-lanes.ensures;
}

pub cells-preserved : goal.cells-preserved
cells-preserved c = one_widened c.args.from _ _ _ _ _ _ _ c.cells.invariant (omega arith) (omega arith) c.pixel_in.ensures c.cell_in.ensures
