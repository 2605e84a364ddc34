use Rattle.std.proofs.Common.{◌≡◌, map, take}
use Rattle.screen_compose.specs.Shown.{layer_of}
use Rattle.screen_compose.proofs.shown.layers_of.Given as goal

abbrev pub invariant-each : goal.invariant-each
invariant-each l = l.layers.items ≡ map (layer_of l.windows) (take l.p-index l.placed)
