use Rattle.std.proofs.Common.{◌≡◌, drop}
use Rattle.screen_compose.specs.Changes.{are_same_pixels}
use Rattle.screen_compose.proofs.rows.are_same_pixels.Given as goal

abbrev pub invariant-each : goal.invariant-each
invariant-each l = are_same_pixels (drop l.x l.a) (drop l.x l.b) ≡ are_same_pixels l.a l.b
