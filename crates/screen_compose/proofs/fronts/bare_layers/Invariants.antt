use Rattle.std.proofs.Common.{◌≡◌, map, take}
use Rattle.screen_compose.specs.Fronts.{bare_layer}
use Rattle.screen_compose.proofs.fronts.bare_layers.Given as goal

abbrev pub invariant-each : goal.invariant-each
invariant-each l = l.layers.items ≡ map bare_layer (take l.p-index l.placed)
