use Rattle.thread_part.proofs.Stands.{draw_stands}
use Rattle.thread_part.proofs.StaysWhole.{drawn_whole}
use Rattle.thread_part.proofs.thread_part.ThreadPart.draw.Goals as goal

pub returns-clause-step : goal.returns-clause-step
returns-clause-step c = rw (← c.self.view_is) (draw_stands c.self.inside.parts c.draw.new.self _ c.args.rect c.draw.ensures)

pub returns-clause-whole : goal.returns-clause-whole
returns-clause-whole c = rw (← c.self.view_is) (drawn_whole c.self.inside.parts c.draw.new.self _ c.args.rect c.draw.ensures)
