use Rattle.history_laws.proofs.ByteLaws.{contents_counted, copy_counted, image_counted, storage_counted}
use Rattle.history_laws.proofs.bytes.new_pixels_are_counted_as_they_are_made.Goals as goal

pub returns-clause-image : goal.returns-clause-image
returns-clause-image c = image_counted

pub returns-clause-copied : goal.returns-clause-copied
returns-clause-copied c = copy_counted

pub returns-clause-storage : goal.returns-clause-storage
returns-clause-storage c = storage_counted

pub returns-clause-contents : goal.returns-clause-contents
returns-clause-contents c = contents_counted
