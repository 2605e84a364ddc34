use Rattle.std.proofs.Common.{◌≡◌, ◌++◌, drop, map}
use Rattle.json_lines.specs.Lists.{items_of_list}
use Rattle.egl_explain.specs.JsonEntries.{named_data}
use Rattle.egl_explain.proofs.json_entries.numbers_list.Given as goal

abbrev pub invariant-each : goal.invariant-each
invariant-each l = items_of_list l.list ++ map named_data (drop l.number-index l.numbers) ≡ map named_data l.numbers
