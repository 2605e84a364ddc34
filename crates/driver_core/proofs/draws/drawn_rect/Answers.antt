use Rattle.driver_core.proofs.DrawLaws.{rect_drawn}
use Rattle.driver_core.proofs.draws.drawn_rect.Goals as goal

pub returns-clause-drawn : goal.returns-clause-drawn
returns-clause-drawn c =
    rect_drawn c.args.kind c.args.call.now c.fixed.result c.fixed-2.result c.fixed-3.result c.fixed-4.result c.number_at-3.result c.number_at-4.result
    c.fixed.ensures.number c.fixed-2.ensures.number c.fixed-3.ensures.number c.fixed-4.ensures.number c.fixed-3.ensures.value c.fixed-4.ensures.value
    c.number_at-3.ensures.number c.number_at-4.ensures.number c.number_at-3.ensures.value c.number_at-4.ensures.value c.requires.some
