use Rattle.indexmap.specs.IndexMap.{index_map_len}
use Rattle.display_table.proofs.PlaceLaws.{FromPop}
use Rattle.display_table.proofs.tables.take_last.Given as goal

abbrev pub invariant-places : goal.invariant-places
invariant-places l = FromPop l.initial.table.entries l.table.entries

abbrev pub decreases-places : goal.decreases-places
decreases-places l = index_map_len l.table
