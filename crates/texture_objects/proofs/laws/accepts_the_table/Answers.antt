use Rattle.texture_objects.proofs.TextureLaws.{accepts}
use Rattle.texture_objects.proofs.laws.accepts_the_table.Goals as goal

pub returns : goal.returns
returns c = accepts
