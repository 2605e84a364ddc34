use Rattle.std.proofs.Common.{◌+◌, ◌∙◌, ap, sym, drop, arith}
use Rattle.screen_compose.specs.Composing.{covered_by}
use Rattle.screen_compose.proofs.RowLaws.{one_layer}
use Rattle.screen_compose.proofs.rows.cover_by.Goals as goal

pub each-preserved : goal.each-preserved
each-preserved c = record {
  long = c.cover_layer.ensures.long ∙ c.each.invariant.long;
  pixels = λ x h.
      ap (covered_by (drop (c.each.layer-index + 1) c.args.layers.now) x c.args.y) (c.cover_layer.ensures.pixels x (omega (arith, h, c.each.invariant.long)))
      ∙ one_layer c.args.layers.now c.each.layer-index x c.args.y c.layer-item.result c.layer-item.result _ c.each-test.true (sym c.layer-item.is)
      ∙ c.each.invariant.pixels x h;
}
