use Rattle.std.proofs.Common.{◌≡◌, drop}
use Rattle.surface_store.specs.Windows.{are_distinct}
use Rattle.surface_store.proofs.windows.are_distinct.Given as goal

abbrev pub invariant-each : goal.invariant-each
invariant-each l = are_distinct (drop l.k l.list) ≡ are_distinct l.list
