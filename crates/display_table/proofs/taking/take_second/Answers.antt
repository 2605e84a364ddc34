use Rattle.display_table.proofs.TableLaws.{second-fits, takes-second, takes_none-second}
use Rattle.display_table.proofs.taking.take_second.Goals as goal

pub take_last-requires : goal.take_last-requires
take_last-requires c = second-fits _ _ _ c.requires

pub returns-in-Some-clause-taken : goal.returns-in-Some-clause-taken
returns-in-Some-clause-taken c = takes-second _ _ _ c.requires.tables _ c.in-Some.handle c.in-Some.ensures.last

pub returns-in-None-clause-taken : goal.returns-in-None-clause-taken
returns-in-None-clause-taken c = takes_none-second _ _ _ c.requires.tables _ c.in-None.ensures.none
