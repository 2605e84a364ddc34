-- What placed windows show.
use Rattle.std.specs.Prelude.{ℕ, List, map}
use Rattle.std.specs.Option.{option_map}
use Rattle.egl_calls.specs.Ranges.{unsigned}
use Rattle.surface_store.specs.Windows.{WindowValue}
use Rattle.surface_store.specs.WindowTables.{window_of}
use Rattle.screen_compose.specs.declared.placed.Placed.{Placed}
use Rattle.screen_compose.specs.Fronts.{FrontsValue, LayerValue, rows_in}

-- the front of the window with its id, where one is declared
abbrev pub layer_of : List WindowValue → Placed → LayerValue
layer_of windows p = record { placed = p; front = option_map (λ w. rows_in w.front) (window_of (unsigned p.window) windows) }

abbrev pub fronts_of : List WindowValue → List Placed → ℕ → FrontsValue
fronts_of windows placed at = record { layers = map (layer_of windows) placed; at = at }
