use Rattle.std.proofs.Common.{◌≡◌, ◌++◌, drop}
use Rattle.driver_facts.specs.Tables.{state_in}
use Rattle.driver_facts.specs.Touches.{objects_named}
use Rattle.driver_facts.proofs.tables.Tables.push_named.Given as goal

abbrev pub invariant-each : goal.invariant-each
invariant-each l = l.numbers ++ objects_named (state_in l.self) l.context l.kind (drop l.k l.call.list) ≡ l.fn.numbers ++ objects_named (state_in l.self) l.context l.kind l.call.list
