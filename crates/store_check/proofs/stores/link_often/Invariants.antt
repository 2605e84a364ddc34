use Rattle.ref_store.specs.Kept.{AllIn}
use Rattle.store_check.proofs.stores.link_often.Given as goal

abbrev pub invariant-links : goal.invariant-links
invariant-links g l = AllIn l.store.nodes
