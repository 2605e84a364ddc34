use Rattle.egl_model.specs.Parts.{part_of}
use Rattle.model_laws.specs.Local.{is_local, locally, part_after}
use Rattle.model_laws.specs.Frame.{IsReady}
use Rattle.model_laws.proofs.Steps.Framing.{has_frame}
use Rattle.model_laws.proofs.Parts.LateEntry.{late_entry}
use Rattle.model_laws.proofs.part_laws.local_calls_may_come_late.Goals as goal

pub returns : goal.returns
returns c = late_entry part_of is_local (λ p c. (locally p c).reply) part_after IsReady has_frame
