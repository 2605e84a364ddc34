-- The windows that are declared, by their ids.
use Rattle.std.specs.Prelude.{ℕ, pos, ◌≤◌, Bool, false, ◌&&◌, ◌==◌, List, All, length, slice_index_or, slice_set, if◌then◌else◌, Option}
use Rattle.std.specs.List.{position}
use Rattle.std.specs.Option.{option_map, option_map_or}
use Rattle.egl_calls.specs.Ranges.{unsigned}
use Rattle.pixel_formats.specs.declared.formats.Format.TheVariants.{Rgba8888}
use Rattle.pixel_rows.specs.Images.{ImageValue, blank}
use Rattle.surface_store.specs.Windows.{WindowValue, posted}
use Rattle.surface_store.specs.declared.windows.WindowSpec.{WindowSpec}

-- what stands at a place where there is no window
abbrev pub no_window : WindowValue
no_window = record { id = pos 0; front = blank Rgba8888 0 0 }

abbrev pub window_at : List WindowValue → ℕ → WindowValue
window_at ws k = slice_index_or ws k no_window

-- the place of a window among those declared, from 0, by its id, which is a number from 1
abbrev pub place_of : ℕ → List WindowValue → Option ℕ
place_of id ws = position (λ w. unsigned w.id == id) ws

-- the window of an id
abbrev pub window_of : ℕ → List WindowValue → Option WindowValue
window_of id ws = option_map (window_at ws) (place_of id ws)

-- what a window was declared as
abbrev pub spec_of : WindowValue → WindowSpec
spec_of w = record { id = w.id; w = w.front.width; h = w.front.height }

abbrev pub has_sides_of : ImageValue → WindowValue → Bool
has_sides_of i w = (w.front.width == i.width) && (w.front.height == i.height)

-- whether there is a window of an id, with the sides of an image
abbrev pub fits : ℕ → ImageValue → List WindowValue → Bool
fits id i ws = option_map_or (has_sides_of i) (window_of id ws) false

-- the windows once an image is posted to that of an id
abbrev pub posted_to : ℕ → ImageValue → List WindowValue → List WindowValue
posted_to id i ws = option_map_or (λ k. slice_set ws k (posted i (window_at ws k))) (place_of id ws) ws

-- a swap posts a back buffer to the window of an id and of its sides, and then the back buffer is all 0 unless it is to
-- be preserved (EGL 1.5, section 3.10.1)
abbrev pub swapped_windows : ℕ → ImageValue → List WindowValue → List WindowValue
swapped_windows id i ws = if fits id i ws then posted_to id i ws else ws

abbrev pub swapped_back : ℕ → Bool → ImageValue → List WindowValue → ImageValue
swapped_back id preserve i ws = if fits id i ws then (if preserve then i else blank i.format i.width i.height) else i

-- sides from 1 to 2,048
pub record HasSides (w : WindowValue) : Type 0 where
  pub wide : 1 ≤ w.front.width
  pub widest : w.front.width ≤ 2048
  pub high : 1 ≤ w.front.height
  pub highest : w.front.height ≤ 2048

-- at most 64 windows of such sides
pub record AreWindows (ws : List WindowValue) : Type 0 where
  pub few : length ws ≤ 64
  pub sides : All HasSides ws
