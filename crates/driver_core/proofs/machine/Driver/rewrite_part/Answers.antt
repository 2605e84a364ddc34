use Rattle.std.proofs.Common.{sym, ◌∙◌}
use Rattle.driver_core.proofs.LevelLaws.{part_passed, part_within}
use Rattle.driver_facts.specs.Tables.{state_in}
use Rattle.driver_core.proofs.machine.Driver.rewrite_part.Goals as goal

pub rewrite-requires-clause-form : goal.rewrite-requires-clause-form
rewrite-requires-clause-form c = (part_passed c.args.self.now.state c.args.thread c.args.context c.args.call.now c.requires.kind c.requires.allowed).form

pub rewrite-requires-clause-inside : goal.rewrite-requires-clause-inside
rewrite-requires-clause-inside c = part_within (state_in c.self.inside.tables) c.args.thread c.args.context c.in-Some.storage c.args.call.now c.requires.kind (rw (← c.self.view_is) at c.requires.allowed) (rw c.number.ensures at (sym c.level_storage.ensures ∙ c.in-Some.is))
