use Rattle.std.proofs.Common.{ap, ◌∙◌}
use Rattle.egl_calls.specs.Calls.{CallValue}
use Rattle.context_state.specs.Arguments.{has_negative_side}
use Rattle.context_state.specs.Kinds.{is_context_call}
use Rattle.context_state.proofs.BoxLaws.{kept_box}
use Rattle.context_state.proofs.arguments.box_of.Goals as goal

pub returns-clause-in_range : goal.returns-clause-in_range
returns-clause-in_range c =
    kept_box c.call.inside.kind c.call.inside.args
    (ap (λ (v : CallValue). is_context_call v.kind) c.call.view_is ∙ c.requires.kind)
    c.call.invariant.0
    (ap has_negative_side c.call.view_is ∙ c.requires.sides)
