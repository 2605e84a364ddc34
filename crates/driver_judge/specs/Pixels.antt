-- How near pixels of another driver are to ours.
use Rattle.std.specs.Prelude.{ℕ, ◌+◌, ◌-◌, ◌*◌, ◌%◌, Bool, true, false, ◌==◌, ◌&&◌, nat_le, nat_lt, ℤ, List, [], ◌∷◌, ◌++◌, take, drop, fold, max, min, if◌then◌else◌, Option, None, Some}
use Rattle.std.specs.List.{range_with_len}
use Rattle.std.specs.Option.{option_and_then, option_map_or}
use Rattle.egl_calls.specs.Calls.{CallValue}
use Rattle.egl_calls.specs.Ranges.{unsigned}
use Rattle.pixel_formats.specs.Components.{widen}
use Rattle.pixel_formats.specs.Formats.{bytes_of, layout_of}
use Rattle.pixel_formats.specs.Pixels.{unpack}
use Rattle.pixel_formats.specs.declared.formats.Format.{Format}
use Rattle.pixel_formats.specs.declared.formats.Format.TheVariants.{Rgba8888}
use Rattle.pixel_formats.specs.declared.formats.Layout.{Layout}
use Rattle.pixel_formats.specs.declared.formats.Place.{Place}
use Rattle.pixel_formats.specs.declared.pixels.Pixel.{Pixel}
use Rattle.egl_model.specs.Drawing.{pack_alignment, read_form, read_rect}
use Rattle.egl_model.specs.Framebuffers.{bound_framebuffer}
use Rattle.egl_model.specs.Objects.{storage_in}
use Rattle.egl_model.specs.State.{State}
use Rattle.driver_judge.specs.declared.differences.PixelDifference.{PixelDifference}
use Rattle.driver_judge.specs.declared.pixels.Grid.{Grid}

-- ---- A component. It is given in 8 bits, as one of so many bits reads: the level nearest to it, and the least above it and the greatest below it where it is none.
abbrev pub level : ℕ → ℕ → ℕ
level bits c = widen c 8 bits

abbrev pub level_above : ℕ → ℕ → ℕ
level_above bits c = if nat_lt (widen (level bits c) bits 8) c then level bits c + 1 else level bits c

abbrev pub level_below : ℕ → ℕ → ℕ
level_below bits c = if nat_lt c (widen (level bits c) bits 8) then level bits c - 1 else level bits c

-- the most that the allowed step may be
abbrev pub most_delta : ℕ
most_delta = 255

-- the steps between two components of so many bits, and more than the most between two that aren't kept
unfoldable pub steps_between : ℕ → ℕ → ℕ → ℕ
steps_between bits ours theirs =
    if ours == theirs then 0
    else if bits == 0 then most_delta + 1
    else max (level_above bits theirs - level bits ours) (level bits ours - level_below bits theirs)

-- ---- A pixel, as bytes of a form, of an image that keeps so many bits of each component.
-- the bits of a component that both have
abbrev pub common_bits : Place → Place → ℕ
common_bits form stored = min form.bits stored.bits

unfoldable pub pixel_steps_in : Layout → Layout → Pixel → Pixel → ℕ
pixel_steps_in form stored ours theirs =
    max (max (steps_between (common_bits form.r stored.r) ours.r theirs.r) (steps_between (common_bits form.g stored.g) ours.g theirs.g))
    (max (steps_between (common_bits form.b stored.b) ours.b theirs.b) (steps_between (common_bits form.a stored.a) ours.a theirs.a))

-- four bytes; those that a form doesn't have are 0
abbrev pub four : List ℕ → List ℕ
four bytes = take 4 (bytes ++ 0 ∷ 0 ∷ 0 ∷ 0 ∷ [])

unfoldable pub pixel_steps : Format → Format → List ℕ → List ℕ → ℕ
pixel_steps form stored ours theirs = pixel_steps_in (layout_of form) (layout_of stored) (unpack form (four ours)) (unpack form (four theirs))

-- ---- Rows of pixels as bytes. The cell behind the last pixel of a row has what stands there.
abbrev pub row_length : Grid → ℕ
row_length g = g.columns * bytes_of g.form + g.behind

abbrev pub cell_length : Grid → ℕ → ℕ
cell_length g x = if nat_lt x g.columns then bytes_of g.form else g.behind

abbrev pub cell_at : Grid → ℕ → ℕ → ℕ
cell_at g x y = y * row_length g + x * bytes_of g.form

abbrev pub cell : Grid → List ℕ → ℕ → ℕ → List ℕ
cell g bytes x y = take (cell_length g x) (drop (cell_at g x y) bytes)

abbrev pub are_equal : List ℕ → List ℕ → Bool
are_equal [] [] = true
are_equal [] (c ∷ cs) = false
are_equal (b ∷ bs) [] = false
are_equal (b ∷ bs) (c ∷ cs) = (b == c) && are_equal bs cs

-- no step allows other bytes behind a row
unfoldable pub cell_steps : Grid → ℕ → List ℕ → List ℕ → ℕ
cell_steps g x ours theirs =
    if are_equal ours theirs then 0
    else if nat_lt x g.columns then pixel_steps g.form g.stored ours theirs
    else most_delta + 1

-- ---- All of them.
abbrev pub first_cell : Grid → ℕ → ℕ → ℕ → List ℕ → List ℕ → PixelDifference
first_cell g x y steps ours theirs = record { count = 1; of = g.columns * g.rows; largest = steps; left = x; bottom = y; right = x; top = y; x = x; y = y; expected = ours; found = theirs }

-- one more, of so many that fit their number
abbrev pub one_more : ℕ → ℕ
one_more n = min (n + 1) 18446744073709551615

abbrev pub further_cell : PixelDifference → ℕ → ℕ → ℕ → PixelDifference
further_cell d x y steps = record d { count = one_more d.count; largest = max d.largest steps; left = min d.left x; bottom = min d.bottom y; right = max d.right x; top = max d.top y }

abbrev pub with_cell : Grid → ℕ → ℕ → ℕ → List ℕ → List ℕ → Option PixelDifference → PixelDifference
with_cell g x y steps ours theirs None = first_cell g x y steps ours theirs
with_cell g x y steps ours theirs (Some d) = further_cell d x y steps

abbrev pub counted_by : ℕ → Grid → ℕ → ℕ → ℕ → List ℕ → List ℕ → Option PixelDifference → Option PixelDifference
counted_by delta g x y steps ours theirs d = if nat_le steps delta then d else Some (with_cell g x y steps ours theirs d)

-- what differs by more than the allowed step, with one more cell
unfoldable pub counted : ℕ → Grid → List ℕ → List ℕ → ℕ → Option PixelDifference → ℕ → Option PixelDifference
counted delta g ours theirs y d x = counted_by delta g x y (cell_steps g x (cell g ours x y) (cell g theirs x y)) (cell g ours x y) (cell g theirs x y) d

-- with one more row, from left to right
unfoldable pub counted_row : ℕ → Grid → List ℕ → List ℕ → Option PixelDifference → ℕ → Option PixelDifference
counted_row delta g ours theirs d y = fold (counted delta g ours theirs y) d (range_with_len 0 (g.columns + 1))

-- how as many bytes of theirs differ from ours by more than the allowed step, from the lowest row upward
unfoldable pub pixel_difference : ℕ → Grid → List ℕ → List ℕ → Option PixelDifference
pixel_difference delta g ours theirs = fold (counted_row delta g ours theirs) None (range_with_len 0 g.rows)

-- ---- What is read (OpenGL ES 1.1, section 4.3.1), and what windows show.
abbrev pub stored_format : State → Option ℕ → Format
stored_format s storage = option_map_or (λ v. v.format) (option_and_then (storage_in s.objects) storage) Rgba8888

-- a side of what is read
abbrev pub side : ℤ → ℕ
side z = min (unsigned z) 4294967295

-- the bytes behind the pixels of a row
abbrev pub bytes_behind : ℕ → ℕ → ℕ
bytes_behind length align = if align == 0 then 0 else (align - length % align) % align

unfoldable pub read_grid : State → ℕ → ℕ → CallValue → Grid
read_grid s t n c = record {
  columns = side (read_rect c).w;
  rows = side (read_rect c).h;
  form = read_form c;
  stored = stored_format s (bound_framebuffer s t).read;
  behind = bytes_behind (side (read_rect c).w * bytes_of (read_form c)) (pack_alignment s n);
}

abbrev pub no_grid : Grid
no_grid = record { columns = 0; rows = 0; form = Rgba8888; stored = Rgba8888; behind = 0 }

-- the pixels that a thread reads by a call; none without a current context
abbrev pub grid_of : State → ℕ → Option ℕ → CallValue → Grid
grid_of s t (Some n) c = read_grid s t n c
grid_of s t None c = no_grid

-- what a window shows has four bytes a pixel, of which it keeps the bits of its surface
abbrev pub front_grid : ℕ → ℕ → Format → Grid
front_grid width height stored = record { columns = width; rows = height; form = Rgba8888; stored = stored; behind = 0 }
