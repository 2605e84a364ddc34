use Rattle.egl_names.proofs.NameLaws.{distinct}
use Rattle.egl_names.proofs.laws.names_are_distinct.Goals as goal

pub returns : goal.returns
returns c = distinct
