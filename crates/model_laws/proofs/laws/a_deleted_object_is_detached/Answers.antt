use Rattle.model_laws.proofs.Names.DetachLaws.{deleted_is_detached, others_stay_attached}
use Rattle.model_laws.proofs.laws.a_deleted_object_is_detached.Goals as goal

pub returns-clause-detached : goal.returns-clause-detached
returns-clause-detached c = deleted_is_detached

pub returns-clause-others : goal.returns-clause-others
returns-clause-others c = others_stay_attached
