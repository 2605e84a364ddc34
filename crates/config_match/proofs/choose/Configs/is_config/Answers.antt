use Rattle.std.proofs.Common.{ap, ◌∙◌, w64}
use Rattle.std.proofs.lemmas.Int.{to_z-of_z}
use Rattle.egl_calls.specs.Ranges.{unsigned}
use Rattle.config_match.proofs.ConfigLaws.{is_config_of}
use Rattle.config_match.proofs.choose.Configs.is_config.Goals as goal

pub returns-clause-config : goal.returns-clause-config
returns-clause-config c =
    c.is_config_in.ensures
    ∙ is_config_of c.self.inside.rows c.unsigned.result c.args.id c.self.invariant (c.unsigned.ensures ∙ ap unsigned (to_z-of_z w64 c.args.id c.ranges.id))
