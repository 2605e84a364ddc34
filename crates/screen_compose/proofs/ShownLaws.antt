-- Fronts are of the windows that were asked for.
use Rattle.std.proofs.Common.{◌≡◌, List, [], ◌∷◌, map, refl, ap}
use Rattle.surface_store.specs.Windows.{WindowValue}
use Rattle.screen_compose.specs.Fronts.{placed_in}
use Rattle.screen_compose.specs.Shown.{layer_of}
use Rattle.screen_compose.specs.declared.placed.Placed.{Placed}

pub shown_placed : (windows : List WindowValue) (placed : List Placed) → placed_in (map (layer_of windows) placed) ≡ placed
shown_placed windows [] = refl
shown_placed windows (p ∷ ps) = ap (λ (xs : List Placed). p ∷ xs) (shown_placed windows ps)
