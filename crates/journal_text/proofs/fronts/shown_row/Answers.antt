use Rattle.std.proofs.Common.{arith}
use Rattle.journal_text.proofs.RowLaws.{row_long}
use Rattle.journal_text.proofs.fronts.shown_row.Goals as goal

pub returns-clause-few : goal.returns-clause-few
returns-clause-few c = omega (arith, row_long c.args.front.now c.args.y, c.width.ensures.whole.wide)
