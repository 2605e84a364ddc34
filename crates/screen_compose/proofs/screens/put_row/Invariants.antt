use Rattle.std.proofs.Common.{◌≡◌, ◌++◌, take}
use Rattle.std.specs.List.{flat_map}
use Rattle.screen_compose.specs.Screens.{pixel_bytes}
use Rattle.screen_compose.proofs.screens.put_row.Given as goal

abbrev pub invariant-each : goal.invariant-each
invariant-each l = l.out ≡ l.fn.out ++ flat_map pixel_bytes (take l.p-index l.row)
