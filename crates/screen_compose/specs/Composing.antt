-- What a screen shows: its windows over one another, in their order.
use Rattle.std.specs.Prelude.{ℕ, ◌+◌, ◌-◌, ◌*◌, ◌/◌, ℤ, pos, ◌-ℤ◌, List, [], ◌∷◌, map, length, slice_index_or, Option, None, Some}
use Rattle.std.specs.List.{range_with_len}
use Rattle.std.specs.Option.{option_and_then, option_map}
use Rattle.pixel_formats.specs.declared.pixels.Pixel.{Pixel}
use Rattle.pixel_rows.specs.Images.{no_pixel}
use Rattle.pixel_rows.specs.Transfers.{place_in}
use Rattle.screen_compose.specs.Fronts.{LayerValue}

-- where no window lies
abbrev pub black : Pixel
black = record { r = 0; g = 0; b = 0; a = 255 }

-- a component with this alpha over another, rounded to the nearest
unfoldable pub over : ℕ → ℕ → ℕ → ℕ
over s alpha c = (2 * (s * alpha + c * (255 - alpha)) + 255) / 510

-- a pixel over one of the screen, which stays opaque
abbrev pub pixel_over : Pixel → Pixel → Pixel
pixel_over p c = record { r = over p.r p.a c.r; g = over p.g p.a c.g; b = over p.b p.a c.b; a = 255 }

-- the pixel of a row that lies in a column of the screen, where the row begins in column `start`
abbrev pub pixel_in : ℤ → List Pixel → ℕ → Option Pixel
pixel_in start row x = option_map (λ k. slice_index_or row k no_pixel) (place_in (length row) (pos x -ℤ start))

-- the row of a layer that lies in row y of the screen
abbrev pub row_from : ℤ → ℕ → List (List Pixel) → Option (List Pixel)
row_from start y rows = option_map (λ j. slice_index_or rows j []) (place_in (length rows) (pos y -ℤ start))

abbrev pub row_at : LayerValue → ℕ → Option (List Pixel)
row_at l y = option_and_then (row_from l.placed.y y) l.front

abbrev pub under : Option Pixel → Pixel → Pixel
under None c = c
under (Some p) c = pixel_over p c

-- a pixel of the screen in column x once a layer lies over it, of which this row lies there
abbrev pub covered : ℤ → Option (List Pixel) → ℕ → Pixel → Pixel
covered start None x c = c
covered start (Some row) x c = under (pixel_in start row x) c

-- the same once these layers lie over it
abbrev pub covered_by : List LayerValue → ℕ → ℕ → Pixel → Pixel
covered_by [] x y c = c
covered_by (l ∷ layers) x y c = covered_by layers x y (covered l.placed.x (row_at l y) x c)

-- a row of the screen
unfoldable pub composed_row : List LayerValue → ℕ → ℕ → List Pixel
composed_row layers w y = map (λ x. covered_by layers x y black) (range_with_len 0 w)

-- all rows, from 0 upward
unfoldable pub composed : List LayerValue → ℕ → ℕ → List (List Pixel)
composed layers w h = map (composed_row layers w) (range_with_len 0 h)
