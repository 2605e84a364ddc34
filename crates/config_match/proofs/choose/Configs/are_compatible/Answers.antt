use Rattle.std.proofs.Common.{ap, ◌∙◌, w64}
use Rattle.std.proofs.lemmas.Int.{to_z-of_z}
use Rattle.egl_calls.specs.Ranges.{unsigned}
use Rattle.config_match.proofs.ConfigLaws.{compatible_of}
use Rattle.config_match.proofs.choose.Configs.are_compatible.Goals as goal

pub returns : goal.returns
returns c =
    c.are_compatible_in.ensures
    ∙ compatible_of c.self.inside.rows c.unsigned.result c.unsigned-2.result c.args.first c.args.second c.self.invariant
    (c.unsigned.ensures ∙ ap unsigned (to_z-of_z w64 c.args.first c.ranges.first))
    (c.unsigned-2.ensures ∙ ap unsigned (to_z-of_z w64 c.args.second c.ranges.second))
