-- The draws of a scene.
use Rattle.std.specs.Prelude.{ℕ, ℤ, pos, ◌*◌, ◌+ℤ◌, Bool, true, false, ◌&&◌, List, [], ◌∷◌, ◌++◌, map, Option, None, Some}
use Rattle.std.specs.List.{flat_map, range_with_len}
use Rattle.pixel_rows.specs.Rects.{is_in}
use Rattle.pixel_rows.specs.declared.rects.Rect.{Rect}
use Rattle.scene_reader.specs.Items.{atlas_with}
use Rattle.scene_reader.specs.declared.items.Atlas.{Atlas}
use Rattle.scene_reader.specs.declared.items.ClipBox.{ClipBox}
use Rattle.scene_reader.specs.declared.items.Item.{Item}
use Rattle.scene_reader.specs.declared.items.Item.TheVariants.{Atlas as AtlasItem, Sprite, Smooth, Tile, Clip, NoClip}
use Rattle.scene_reader.specs.declared.items.ScaledPart.{ScaledPart}
use Rattle.scene_reader.specs.declared.items.TiledPart.{TiledPart}

-- a part of an atlas over a rectangle of the scene, smooth or not, and the box in which it writes; none where it may write everywhere
pub record Draw : Type 0 where
  pub atlas : Option Atlas
  pub drawn : ScaledPart
  pub is_smooth : Bool
  pub clip : Option ClipBox

-- one of the parts of a tile, in a column and a row of them: it is as large as in its atlas
abbrev pub tile_at : TiledPart → ℕ → ℕ → ScaledPart
tile_at t column row = record {
  part = t.part;
  x = t.x +ℤ pos (column * t.part.width);
  y = t.y +ℤ pos (row * t.part.height);
  width = t.part.width;
  height = t.part.height;
}

-- those of a row, and all of them, row by row
abbrev pub tile_row : TiledPart → ℕ → List ScaledPart
tile_row t row = map (λ column. tile_at t column row) (range_with_len 0 t.columns)

unfoldable pub tiles : TiledPart → List ScaledPart
tiles t = flat_map (tile_row t) (range_with_len 0 t.rows)

-- the draw of a part behind some items
abbrev pub draw_of : Option ClipBox → List Item → Bool → ScaledPart → Draw
draw_of clip before smooth s = record { atlas = atlas_with before s.part.atlas; drawn = s; is_smooth = smooth; clip = clip }

-- the draws of an item behind others, under the clip there
abbrev pub item_draws : Option ClipBox → List Item → Item → List Draw
item_draws clip before (AtlasItem a) = []
item_draws clip before (Sprite s) = draw_of clip before false s ∷ []
item_draws clip before (Smooth s) = draw_of clip before true s ∷ []
item_draws clip before (Tile t) = map (draw_of clip before false) (tiles t)
item_draws clip before (Clip c) = []
item_draws clip before NoClip = []

-- the clip behind an item
abbrev pub clip_after : Option ClipBox → Item → Option ClipBox
clip_after clip (AtlasItem a) = clip
clip_after clip (Sprite s) = clip
clip_after clip (Smooth s) = clip
clip_after clip (Tile t) = clip
clip_after clip (Clip c) = Some c
clip_after clip NoClip = None

-- the draws of items behind others, first to last
abbrev pub draws_from : Option ClipBox → List Item → List Item → List Draw
draws_from clip before [] = []
draws_from clip before (i ∷ more) = item_draws clip before i ++ draws_from (clip_after clip i) (before ++ i ∷ []) more

-- the rectangle that a draw covers
abbrev pub drawn_rect : ScaledPart → Rect
drawn_rect s = record { x = s.x; y = s.y; w = pos s.width; h = pos s.height }

abbrev pub clip_rect : ClipBox → Rect
clip_rect c = record { x = c.x; y = c.y; w = pos c.width; h = pos c.height }

-- whether a clip holds a pixel
abbrev pub allows : Option ClipBox → ℕ → ℕ → Bool
allows None x y = true
allows (Some c) x y = is_in (clip_rect c) x y

-- whether a draw writes a pixel: it covers it, and its clip holds it
abbrev pub writes : ℕ → ℕ → Draw → Bool
writes x y d = allows d.clip x y && is_in (drawn_rect d.drawn) x y
