use Rattle.model_laws.proofs.Parts.LateDraws.{sampler_seen}
use Rattle.model_laws.proofs.late_laws.a_late_draw_samples_what_is_seen.Goals as goal

pub returns : goal.returns
returns c = sampler_seen
