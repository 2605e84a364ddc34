use Rattle.model_laws.proofs.Names.DeletionLaws.{deleted_is_unbound}
use Rattle.model_laws.proofs.laws.a_deleted_object_is_unbound.Goals as goal

pub returns : goal.returns
returns c = deleted_is_unbound
