use Rattle.history_laws.proofs.MemoryLaws.{copy_wants, data_wants, image_wants, storage_wants, wanting_copy, wanting_data, wanting_image, wanting_storage}
use Rattle.history_laws.proofs.memory.bytes_want_where_nothing_else_is_wrong.Goals as goal

pub returns-clause-image : goal.returns-clause-image
returns-clause-image c = λ s t n k call r h i. (image_wants s t n k call r h i, wanting_image s t n k call r h i)

pub returns-clause-copied : goal.returns-clause-copied
returns-clause-copied c = λ s t n k call r h i. (copy_wants s t n k call r h i, wanting_copy s t n k call r h i)

pub returns-clause-contents : goal.returns-clause-contents
returns-clause-contents c = λ s t n k call r h i. (data_wants s t n k call r h i, wanting_data s t n k call r h i)

pub returns-clause-storage : goal.returns-clause-storage
returns-clause-storage c = λ s t n k call r h i. (storage_wants s t n k call r h i, wanting_storage s t n k call r h i)
