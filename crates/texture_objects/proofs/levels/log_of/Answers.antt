use Rattle.std.proofs.Common.{◌∙◌}
use Rattle.texture_objects.proofs.LevelLaws.{log-or}
use Rattle.texture_objects.proofs.levels.log_of.Goals as goal

pub returns-clause-value : goal.returns-clause-value
returns-clause-value c =
    c.unwrap_or.ensures
    ∙ log-or c.checked_ilog2.result c.args.side c.checked_ilog2.ensures.none c.checked_ilog2.ensures.power_le c.checked_ilog2.ensures.next_power_gt c.checked_ilog2.ensures.bound
