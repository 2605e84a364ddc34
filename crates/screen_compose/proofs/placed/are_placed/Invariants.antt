use Rattle.std.proofs.Common.{◌≡◌, drop}
use Rattle.screen_compose.specs.Placing.{are_placed}
use Rattle.screen_compose.proofs.placed.are_placed.Given as goal

abbrev pub invariant-each : goal.invariant-each
invariant-each l = are_placed (drop l.k l.list) ≡ are_placed l.list
