-- Which rows of a screen change with the fronts.
use Rattle.std.specs.Prelude.{ℕ, Bool, true, false, not, ◌&&◌, ◌||◌, ◌==◌, List, [], ◌∷◌, Option, None, Some}
use Rattle.std.specs.List.{count_by, range_with_len}
use Rattle.pixel_formats.specs.declared.pixels.Pixel.{Pixel}
use Rattle.screen_compose.specs.Composing.{row_at}
use Rattle.screen_compose.specs.Fronts.{LayerValue}

abbrev pub is_same_pixel : Pixel → Pixel → Bool
is_same_pixel p q = (p.r == q.r) && (p.g == q.g) && (p.b == q.b) && (p.a == q.a)

abbrev pub are_same_pixels : List Pixel → List Pixel → Bool
are_same_pixels [] [] = true
are_same_pixels [] (q ∷ qs) = false
are_same_pixels (p ∷ ps) [] = false
are_same_pixels (p ∷ ps) (q ∷ qs) = is_same_pixel p q && are_same_pixels ps qs

-- whether a row is in only one of two fronts, or differs
abbrev pub differ : Option (List Pixel) → Option (List Pixel) → Bool
differ None None = false
differ None (Some new) = true
differ (Some old) None = true
differ (Some old) (Some new) = not (are_same_pixels old new)

-- whether row y of the screen changes: some layer's row there
abbrev pub is_changed : List LayerValue → List LayerValue → ℕ → Bool
is_changed [] news y = false
is_changed (o ∷ olds) [] y = false
is_changed (o ∷ olds) (n ∷ news) y = differ (row_at o y) (row_at n y) || is_changed olds news y

-- how many rows of a screen change
abbrev pub changed_rows : List LayerValue → List LayerValue → ℕ → ℕ
changed_rows olds news h = count_by (is_changed olds news) (range_with_len 0 h)
