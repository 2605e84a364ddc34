use Rattle.driver_facts.specs.Tables.{state_in}
use Rattle.driver_facts.proofs.TouchLaws.{levels_more}
use Rattle.driver_facts.proofs.tables.Tables.push_levels.Goals as goal

pub each-preserved : goal.each-preserved
each-preserved c =
    levels_more (state_in c.args.self.now) c.args.texture c.each.level c.level.result c.each.numbers c.push_found.new.numbers _ c.level.ensures c.in_ok-push_found.ensures c.each.invariant
