use Rattle.std.proofs.Common.{sym, ◌∙◌}
use Rattle.driver_facts.specs.Tables.{state_in}
use Rattle.driver_facts.proofs.BufferLaws.{read_inside}
use Rattle.driver_facts.proofs.tables.Tables.part_read.Goals as goal

pub read_part-requires : goal.read_part-requires
read_part-requires c = read_inside (state_in c.args.self.now) c.args.thread c.args.context c.in-Some.buffer c.args.call.now c.requires.kind c.requires.allowed (sym c.target_buffer.ensures ∙ c.in-Some.is)
