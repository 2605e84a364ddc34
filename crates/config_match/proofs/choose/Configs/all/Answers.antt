use Rattle.config_match.proofs.ConfigLaws.{all_are}
use Rattle.config_match.proofs.choose.Configs.all.Goals as goal

pub returns-clause-ids : goal.returns-clause-ids
returns-clause-ids c = all_are c.ids_in.result c.self.inside.rows c.self.invariant c.ids_in.ensures.ids
