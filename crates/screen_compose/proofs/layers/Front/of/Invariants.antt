use Rattle.std.proofs.Common.{◌≡◌}
use Rattle.screen_compose.specs.Fronts.{first_rows}
use Rattle.screen_compose.proofs.layers.Front.of.Given as goal

abbrev pub invariant-each : goal.invariant-each
invariant-each l = l.rows.items ≡ first_rows l.image l.y
