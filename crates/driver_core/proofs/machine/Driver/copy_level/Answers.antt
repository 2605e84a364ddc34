use Rattle.driver_facts.proofs.CopyLaws.{copied_below}
use Rattle.driver_core.proofs.machine.Driver.copy_level.Goals as goal

pub give_level-requires : goal.give_level-requires
give_level-requires g c = record { level = rw c.number-level.ensures (copied_below c.args.self.now.state c.args.thread c.args.context c.args.call.now c.requires.kind c.requires.allowed) }

pub give_level-requires-in-Some : goal.give_level-requires-in-Some
give_level-requires-in-Some g c = record { level = rw c.number-level.ensures (copied_below c.args.self.now.state c.args.thread c.args.context c.args.call.now c.requires.kind c.requires.allowed) }
