-- The fronts of placed windows.
use Rattle.std.specs.Prelude.{◌≡◌, ℕ, List, map, Option, None}
use Rattle.std.specs.List.{range_with_len}
use Rattle.pixel_formats.specs.declared.pixels.Pixel.{Pixel}
use Rattle.pixel_rows.specs.Images.{ImageValue, pixel_at}
use Rattle.screen_compose.specs.declared.placed.Placed.{Placed}

-- the first n pixels of a row of an image, from left to right
unfoldable pub pixels_in : ImageValue → ℕ → ℕ → List Pixel
pixels_in v y n = map (λ x. pixel_at v x y) (range_with_len 0 n)

-- the pixels of an image by its rows, the lowest first
abbrev pub row_in : ImageValue → ℕ → List Pixel
row_in v y = pixels_in v y v.width

unfoldable pub first_rows : ImageValue → ℕ → List (List Pixel)
first_rows v n = map (row_in v) (range_with_len 0 n)

abbrev pub rows_in : ImageValue → List (List Pixel)
rows_in v = first_rows v v.height

-- a placed window, with the rows of what it shows; none where no such window is declared
pub record LayerValue : Type 0 where
  pub placed : Placed
  pub front : Option (List (List Pixel))

-- the layers of a screen, the lowest first, and how many entries the history had of which they are the fronts
pub record FrontsValue : Type 0 where
  pub layers : List LayerValue
  pub at : ℕ

abbrev pub placed_in : List LayerValue → List Placed
placed_in layers = map (λ l. l.placed) layers

-- the fronts are of the windows of this list
abbrev pub AreOf : FrontsValue → List Placed → Type 0
AreOf f placed = placed_in f.layers ≡ placed

-- of each window nothing yet
abbrev pub bare_layer : Placed → LayerValue
bare_layer p = record { placed = p; front = None }

abbrev pub no_fronts : List Placed → FrontsValue
no_fronts placed = record { layers = map bare_layer placed; at = 0 }
