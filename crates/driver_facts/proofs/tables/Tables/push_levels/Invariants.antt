use Rattle.std.proofs.Common.{◌≡◌, ◌++◌, drop, map, pos}
use Rattle.driver_objects.specs.Objects.{filled}
use Rattle.driver_facts.specs.Tables.{state_in}
use Rattle.driver_facts.specs.Touches.{levels_in}
use Rattle.driver_facts.proofs.tables.Tables.push_levels.Given as goal

abbrev pub invariant-each : goal.invariant-each
invariant-each l = l.numbers ++ map pos (filled (drop l.level (levels_in (state_in l.self) l.texture))) ≡ l.fn.numbers ++ map pos (filled (levels_in (state_in l.self) l.texture))
