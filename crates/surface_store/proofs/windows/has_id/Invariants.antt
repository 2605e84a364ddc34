use Rattle.std.proofs.Common.{◌≡◌, drop}
use Rattle.surface_store.specs.Windows.{has_id}
use Rattle.surface_store.proofs.windows.has_id.Given as goal

abbrev pub invariant-each : goal.invariant-each
invariant-each l = has_id l.id (drop l.spec-index l.list) ≡ has_id l.id l.list
