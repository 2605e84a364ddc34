use Rattle.std.proofs.Common.{sym, ◌∙◌}
use Rattle.driver_facts.proofs.BufferLaws.{part_inside}
use Rattle.driver_facts.specs.Tables.{state_in}
use Rattle.driver_core.proofs.machine.Driver.set_part_of.Goals as goal

pub set_part_of-requires : goal.set_part_of-requires
set_part_of-requires c = part_inside (state_in c.self.inside.tables) c.args.thread c.args.context c.in-Some.buffer c.args.call.now c.requires.kind (rw (← c.self.view_is) at c.requires.allowed) (sym c.target_buffer.ensures ∙ c.in-Some.is)
