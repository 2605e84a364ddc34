-- A screen as a value.
use Rattle.std.specs.Prelude.{◌≡◌, ℕ, ◌≤◌, List, [], ◌∷◌, length}
use Rattle.std.specs.List.{flat_map}
use Rattle.pixel_formats.specs.declared.pixels.Pixel.{Pixel}
use Rattle.screen_compose.specs.declared.placed.Placed.{Placed}
use Rattle.screen_compose.specs.Composing.{composed}
use Rattle.screen_compose.specs.Fronts.{AreOf, FrontsValue}

-- its sides, the windows that are placed on it, and the fronts that it shows
pub record ScreenValue : Type 0 where
  pub width : ℕ
  pub height : ℕ
  pub placed : List Placed
  pub fronts : FrontsValue

-- the rows that are kept are the composition of the fronts, which are of the placed windows
pub record Shows (width height : ℕ) (placed : List Placed) (fronts : FrontsValue) (rows : List (List Pixel)) : Type 0 where
  pub wide : width ≤ 2048
  pub high : height ≤ 2048
  pub few : length placed ≤ 64
  pub same : AreOf fronts placed
  pub shown : rows ≡ composed fronts.layers width height

-- red, green, blue and alpha of each pixel, row by row from row 0 upward
abbrev pub pixel_bytes : Pixel → List ℕ
pixel_bytes p = p.r ∷ p.g ∷ p.b ∷ p.a ∷ []

abbrev pub row_bytes : List Pixel → List ℕ
row_bytes row = flat_map pixel_bytes row

unfoldable pub picture_bytes : List (List Pixel) → List ℕ
picture_bytes rows = flat_map row_bytes rows

-- what a screen shows, as bytes
abbrev pub screen_bytes : ScreenValue → List ℕ
screen_bytes s = picture_bytes (composed s.fronts.layers s.width s.height)
