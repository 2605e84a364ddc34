use Rattle.std.proofs.Common.{◌≡◌, map, take}
use Rattle.surface_store.specs.Windows.{opened}
use Rattle.surface_store.proofs.window_tables.WindowTable.new.Given as goal

abbrev pub invariant-each : goal.invariant-each
invariant-each l = l.windows.items ≡ map opened (take l.spec-index l.specs)
