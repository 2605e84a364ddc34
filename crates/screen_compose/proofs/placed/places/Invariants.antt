use Rattle.std.proofs.Common.{◌≡◌, drop}
use Rattle.screen_compose.specs.Placing.{places}
use Rattle.screen_compose.proofs.placed.places.Given as goal

abbrev pub invariant-each : goal.invariant-each
invariant-each l = places l.window (drop l.placed-index l.list) ≡ places l.window l.list
