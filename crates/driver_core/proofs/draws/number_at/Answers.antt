use Rattle.std.proofs.Common.{ap, ◌∙◌}
use Rattle.egl_calls.specs.Calls.{CallValue}
use Rattle.egl_calls.specs.Ranges.{is_client_wait}
use Rattle.driver_core.proofs.DrawLaws.{number_read}
use Rattle.driver_core.proofs.draws.number_at.Goals as goal

pub returns-clause-number : goal.returns-clause-number
returns-clause-number c = number_read c.call.inside.kind c.call.inside.args c.args.place (ap (λ (v : CallValue). is_client_wait v.kind) c.call.view_is ∙ c.requires.kind) c.call.invariant.0
