use Rattle.model_laws.proofs.Names.NameLaws.{deleted_name_is_free}
use Rattle.model_laws.proofs.laws.a_deleted_name_is_free.Goals as goal

pub returns : goal.returns
returns c = deleted_name_is_free
