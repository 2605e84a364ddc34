use Rattle.std.proofs.Common.{◌∙◌, sym, arith}
use Rattle.screen_compose.proofs.Changing.{past_end}
use Rattle.screen_compose.proofs.layers.is_changed.Goals as goal

pub returns : goal.returns
returns c = sym (past_end c.args.olds.now c.args.news.now c.args.y c.each.k (omega (arith, c.each-test.false, c.min-k-end.ensures, c.each.auto.k-end))) ∙ c.each.invariant
