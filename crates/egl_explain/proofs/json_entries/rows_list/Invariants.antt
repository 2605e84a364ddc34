use Rattle.json_lines.specs.Lists.{items_of_list}
use Rattle.egl_explain.specs.JsonEntries.{AreRows, codes_of}
use Rattle.egl_explain.proofs.json_entries.rows_list.Given as goal

-- the rows of the places so far
abbrev pub invariant-rows : goal.invariant-rows
invariant-rows l = AreRows (codes_of l.refusals l.place) (items_of_list l.list)
