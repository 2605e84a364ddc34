use Rattle.model_laws.proofs.Pixels.ImageLaws.{base_of_image, levels_of_image, pixels_of_image, sides_of_image}
use Rattle.model_laws.proofs.laws.what_gets_an_image_has_its_pixels.Goals as goal

pub returns-clause-base : goal.returns-clause-base
returns-clause-base c = base_of_image

pub returns-clause-levels : goal.returns-clause-levels
returns-clause-levels c = levels_of_image

pub returns-clause-renderbuffer : goal.returns-clause-renderbuffer
returns-clause-renderbuffer c = pixels_of_image

pub returns-clause-sides : goal.returns-clause-sides
returns-clause-sides c = sides_of_image
