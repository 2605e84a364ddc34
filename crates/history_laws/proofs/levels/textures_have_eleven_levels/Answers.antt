use Rattle.history_laws.proofs.LevelLaws.{history_levels, opening_levels, step_levels}
use Rattle.history_laws.proofs.levels.textures_have_eleven_levels.Goals as goal

pub returns-clause-opening : goal.returns-clause-opening
returns-clause-opening c = opening_levels

pub returns-clause-step : goal.returns-clause-step
returns-clause-step c = step_levels

pub returns-clause-history : goal.returns-clause-history
returns-clause-history c = history_levels
