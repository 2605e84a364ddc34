use Rattle.std.proofs.Common.{arith}
use Rattle.display_table.specs.declared.TheConstants.{HANDLES_END}
use Rattle.display_table.specs.Tables.{at_number}
use Rattle.display_table.proofs.PlaceLaws.{beyond_places, none_there}
use Rattle.display_table.proofs.tables.take.Goals as goal

pub returns-in_default-clause-removed : goal.returns-in_default-clause-removed
returns-in_default-clause-removed c n = none_there (at_number c.args.table.now.entries) c.args.number (beyond_places 3 _ c.args.number HANDLES_END c.requires (grind (arith, c.in_default.ensures))) n
