use Rattle.std.proofs.Common.{◌≡◌, take}
use Rattle.std.specs.List.{flat_map}
use Rattle.screen_compose.specs.Screens.{row_bytes}
use Rattle.screen_compose.proofs.screens.picture.Given as goal

abbrev pub invariant-each : goal.invariant-each
invariant-each l = l.out ≡ flat_map row_bytes (take l.row-index l.rows)
