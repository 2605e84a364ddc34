use Rattle.std.proofs.Common.{arith}
use Rattle.driver_facts.specs.Tables.{state_in}
use Rattle.driver_facts.proofs.CountLaws.{count_is}
use Rattle.driver_facts.proofs.tables.Tables.references.Goals as goal

pub returns : goal.returns
returns c = omega (arith, c.references.ensures, c.requires c.args.object, count_is c.args.object (state_in c.args.self.now))
