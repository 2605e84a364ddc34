use Rattle.driver_facts.specs.Tables.{state_in}
use Rattle.driver_facts.proofs.Allowed.{read_sides}
use Rattle.driver_facts.proofs.tables.Tables.read_pixels.Goals as goal

pub read-requires-clause-sides : goal.read-requires-clause-sides
read-requires-clause-sides c = rw c.read_rect.ensures (read_sides (state_in c.args.self.now) c.args.thread c.args.context c.args.call.now c.requires.kind c.requires.allowed)
