use Rattle.egl_names.proofs.NameLaws.{constants_named}
use Rattle.egl_names.proofs.laws.constants_are_named.Goals as goal

pub returns : goal.returns
returns c = constants_named
