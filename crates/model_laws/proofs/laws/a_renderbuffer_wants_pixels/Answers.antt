use Rattle.model_laws.proofs.Pixels.RenderbufferLaws.{renderbuffer_wants_pixels, storage_is_refused}
use Rattle.model_laws.proofs.laws.a_renderbuffer_wants_pixels.Goals as goal

pub returns : goal.returns
returns c = λ s t n call h i. (storage_is_refused s t n call h i, renderbuffer_wants_pixels s t n call h i)
