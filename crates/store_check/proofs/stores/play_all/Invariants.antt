use Rattle.ref_store.specs.Kept.{AllIn}
use Rattle.store_check.proofs.stores.play_all.Given as goal

abbrev pub invariant-each : goal.invariant-each
invariant-each g l = AllIn l.store.nodes
