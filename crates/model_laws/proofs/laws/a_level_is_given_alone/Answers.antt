use Rattle.model_laws.proofs.Pixels.TextureLaws.{copied_level_alone, copied_pixels_alone, level_alone, pixels_alone}
use Rattle.model_laws.proofs.laws.a_level_is_given_alone.Goals as goal

pub returns-clause-levels : goal.returns-clause-levels
returns-clause-levels c = level_alone

pub returns-clause-copied_levels : goal.returns-clause-copied_levels
returns-clause-copied_levels c = copied_level_alone

pub returns-clause-pixels : goal.returns-clause-pixels
returns-clause-pixels c = pixels_alone

pub returns-clause-copied_pixels : goal.returns-clause-copied_pixels
returns-clause-copied_pixels c = copied_pixels_alone
