use Rattle.std.proofs.Common.{◌≡◌, replicate}
use Rattle.screen_compose.specs.Composing.{black}
use Rattle.screen_compose.proofs.screens.black_rows.Given as goal

abbrev pub invariant-each : goal.invariant-each
invariant-each l = l.rows.items ≡ replicate l._y (replicate l.w black)
