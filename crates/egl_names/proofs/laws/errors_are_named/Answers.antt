use Rattle.egl_names.proofs.NameLaws.{errors_named}
use Rattle.egl_names.proofs.laws.errors_are_named.Goals as goal

pub returns : goal.returns
returns c = errors_named
