use Rattle.model_laws.proofs.Handles.DestroyLaws.{released_record}
use Rattle.model_laws.proofs.laws.a_released_thread_is_as_new.Goals as goal

pub returns : goal.returns
returns c = released_record
