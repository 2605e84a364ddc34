use Rattle.std.proofs.Common.{◌∙◌}
use Rattle.std.proofs.lemmas.Bool.{and_from, eq-eqb}
use Rattle.scene_reader.proofs.lines.atlas_of.Goals as goal

pub returns-clause-allowed : goal.returns-clause-allowed
returns-clause-allowed c = and_from _ _ c.in-Ok.ensures.new (eq-eqb _ _ (c.in_ok-texels.ensures.size ∙ c.texel_bytes-size.ensures.value))
