use Rattle.model_laws.proofs.Pixels.SiblingLaws.{level_copied_alone, level_given_alone, renderbuffer_stored_alone, renderbuffer_targeted_alone, texture_targeted_alone}
use Rattle.model_laws.proofs.laws.siblings_keep_their_pixels.Goals as goal

pub returns-clause-given : goal.returns-clause-given
returns-clause-given c = level_given_alone

pub returns-clause-copied : goal.returns-clause-copied
returns-clause-copied c = level_copied_alone

pub returns-clause-stored : goal.returns-clause-stored
returns-clause-stored c = renderbuffer_stored_alone

pub returns-clause-texture : goal.returns-clause-texture
returns-clause-texture c = texture_targeted_alone

pub returns-clause-renderbuffer : goal.returns-clause-renderbuffer
returns-clause-renderbuffer c = renderbuffer_targeted_alone
