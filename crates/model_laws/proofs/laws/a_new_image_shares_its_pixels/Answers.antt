use Rattle.model_laws.proofs.Handles.NewHandleLaws.{image_gets_storage}
use Rattle.model_laws.proofs.Pixels.SiblingLaws.{destroying_changes_nothing, image_changes_nothing}
use Rattle.model_laws.proofs.laws.a_new_image_shares_its_pixels.Goals as goal

pub returns-clause-created : goal.returns-clause-created
returns-clause-created c = image_gets_storage

pub returns-clause-others : goal.returns-clause-others
returns-clause-others c = image_changes_nothing

pub returns-clause-destroyed : goal.returns-clause-destroyed
returns-clause-destroyed c = destroying_changes_nothing
