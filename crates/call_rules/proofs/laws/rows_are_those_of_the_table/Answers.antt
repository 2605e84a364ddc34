use Rattle.call_rules.proofs.GlLaws.{told_rows}
use Rattle.call_rules.proofs.laws.rows_are_those_of_the_table.Goals as goal

pub returns : goal.returns
returns c = told_rows
