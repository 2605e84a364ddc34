use Rattle.model_laws.proofs.Pixels.BufferLaws.{buffer_wants_bytes, data_is_refused}
use Rattle.model_laws.proofs.laws.a_buffer_wants_bytes.Goals as goal

pub returns : goal.returns
returns c = λ s t n call h i. (data_is_refused s t n call h i, buffer_wants_bytes s t n call h i)
