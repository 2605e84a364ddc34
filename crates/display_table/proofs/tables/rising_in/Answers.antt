use Rattle.display_table.proofs.TableLaws.{rising}
use Rattle.display_table.proofs.tables.rising_in.Goals as goal

pub returns-clause-rise : goal.returns-clause-rise
returns-clause-rise c = rising _ _ _ c.requires.tables
