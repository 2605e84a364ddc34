use Rattle.egl_names.proofs.NameLaws.{on_the_list}
use Rattle.egl_names.proofs.laws.codes_are_places.Goals as goal

pub returns : goal.returns
returns c = on_the_list
