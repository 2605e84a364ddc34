use Rattle.std.proofs.Common.{arith}
use Rattle.screen_compose.proofs.RowLaws.{all_black}
use Rattle.screen_compose.proofs.rows.clear.Goals as goal

pub returns : goal.returns
returns c = all_black _ _ c.each.invariant.0 (λ j h. c.each.invariant.1 j (omega (arith, h, c.each-test.false)))
