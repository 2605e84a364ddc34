use Rattle.model_laws.proofs.Pixels.PixelLaws.{live_bytes-created_context, live_bytes-created_pbuffer, live_bytes-created_window}
use Rattle.model_laws.proofs.Steps.StepKeeps.{keeps-step, sound-history}
use Rattle.model_laws.proofs.laws.all_pixels_fit.Goals as goal

pub returns-clause-pbuffer : goal.returns-clause-pbuffer
returns-clause-pbuffer c = live_bytes-created_pbuffer

pub returns-clause-window : goal.returns-clause-window
returns-clause-window c = live_bytes-created_window

pub returns-clause-context : goal.returns-clause-context
returns-clause-context c = live_bytes-created_context

pub returns-clause-step : goal.returns-clause-step
returns-clause-step c = λ s t call. (keeps-step s t call).pixels

pub returns-clause-history : goal.returns-clause-history
returns-clause-history c = λ windows ok video entries. (sound-history windows ok video entries).pixels
