use Rattle.history_laws.proofs.LevelLaws.{base_in_history, levels_in_history}
use Rattle.history_laws.proofs.levels.a_texture_of_an_image_has_its_pixels.Goals as goal

pub returns-clause-base : goal.returns-clause-base
returns-clause-base c = base_in_history

pub returns-clause-levels : goal.returns-clause-levels
returns-clause-levels c = levels_in_history
