use Rattle.model_laws.proofs.Names.DeletionLaws.{others_stay}
use Rattle.model_laws.proofs.laws.a_deletion_leaves_other_contexts.Goals as goal

pub returns : goal.returns
returns c = others_stay
