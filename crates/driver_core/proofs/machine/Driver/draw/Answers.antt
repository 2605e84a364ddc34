use Rattle.driver_core.proofs.DrawLaws.{draw_has_sides}
use Rattle.driver_core.proofs.machine.Driver.draw.Goals as goal

pub drawn_rect-rect-requires-clause-some : goal.drawn_rect-rect-requires-clause-some
drawn_rect-rect-requires-clause-some c = draw_has_sides c.args.self.now.state c.args.thread c.args.context c.args.kind c.args.call.now c.requires.kind c.requires.draws c.requires.allowed
