use Rattle.std.proofs.Common.{◌∙◌, ap}
use Rattle.pixel_rows.specs.declared.rects.Rect.{Rect}
use Rattle.egl_model.specs.Currents.{part_of_context}
use Rattle.egl_model.specs.Draws.{sampler}
use Rattle.model_laws.specs.Late.{sampled_by}
use Rattle.driver_core.proofs.DrawLaws.{draw_has_sides}
use Rattle.driver_core.proofs.LateLaws.{sampled_at}
use Rattle.driver_core.proofs.machine.Driver.left_to_draw.Goals as goal

pub drawn_rect-rect-requires-clause-some : goal.drawn_rect-rect-requires-clause-some
drawn_rect-rect-requires-clause-some c = draw_has_sides c.args.self.now.state c.args.thread c.args.context c.args.kind c.args.call.now c.requires.kind c.requires.draws c.requires.allowed

pub returns-clause-from : goal.returns-clause-from
returns-clause-from c =
    let s = c.args.self.now.state in
    c.in_ok-from.ensures.value ∙ ap (λ (r : Rect). sampled_by (part_of_context s c.args.context) (sampler s c.args.context r)) c.drawn_rect-rect.ensures.value
    ∙ sampled_at s c.args.thread c.args.context c.args.kind c.args.call.now c.requires.kind c.requires.current
