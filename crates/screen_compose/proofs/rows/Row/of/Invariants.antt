use Rattle.std.proofs.Common.{◌≡◌}
use Rattle.screen_compose.specs.Fronts.{pixels_in}
use Rattle.screen_compose.proofs.rows.Row.of.Given as goal

abbrev pub invariant-each : goal.invariant-each
invariant-each l = l.pixels.items ≡ pixels_in l.image l.y l.x
