use Rattle.egl_names.proofs.NameLaws.{inverse}
use Rattle.egl_names.proofs.laws.names_and_codes_are_inverse.Goals as goal

pub returns : goal.returns
returns c = inverse
