-- Parts that a scene may draw.
use Rattle.std.specs.Prelude.{ℕ, ◌+◌, ◌<◌, ◌≤◌, ℤ, pos, negsuc, ◌≤ℤ◌, slice_index}
use Rattle.scene_reader.specs.declared.items.Atlas.{Atlas}
use Rattle.scene_reader.specs.declared.items.Item.{Item}
use Rattle.scene_reader.specs.declared.items.Item.TheVariants.{Atlas as AtlasItem, Sprite, Smooth, Tile, Clip, NoClip}
use Rattle.scene_reader.specs.declared.items.Part.{Part}
use Rattle.scene_reader.specs.declared.items.ScaledPart.{ScaledPart}
use Rattle.scene_reader.specs.declared.items.TiledPart.{TiledPart}

-- some texels, among those of an atlas, whose sides are at most 1,024
pub record IsPartOf (a : Atlas) (p : Part) : Type 0 where
  pub some_columns : 1 ≤ p.width
  pub some_rows : 1 ≤ p.height
  pub columns : p.u + p.width ≤ a.width
  pub rows : p.v + p.height ≤ a.height
  pub wide : a.width ≤ 1024
  pub high : a.height ≤ 1024

-- the same, drawn over 1 to 1,024 columns and rows
pub record IsDrawnPart (a : Atlas) (s : ScaledPart) : Type 0 where
  pub part : IsPartOf a s.part
  pub some_wide : 1 ≤ s.width
  pub some_high : 1 ≤ s.height
  pub wide : s.width ≤ 1024
  pub high : s.height ≤ 1024

-- the texels of an atlas are bytes
abbrev pub HasBytes : Item → Type 0
HasBytes (AtlasItem a) = (k : ℕ) → slice_index a.texels k < 256
HasBytes (Sprite s) = Unit {0}
HasBytes (Smooth s) = Unit {0}
HasBytes (Tile t) = Unit {0}
HasBytes (Clip c) = Unit {0}
HasBytes NoClip = Unit {0}

-- a place of the scene
pub record IsPlaced (z : ℤ) : Type 0 where
  pub low : negsuc 65535 ≤ℤ z
  pub high : z ≤ℤ pos 65535

-- parts side by side, none of them far away
pub record IsTiled (t : TiledPart) : Type 0 where
  pub across : IsPlaced t.x
  pub up : IsPlaced t.y
  pub columns : t.columns ≤ 1024
  pub rows : t.rows ≤ 1024
  pub wide : t.part.width ≤ 1024
  pub high : t.part.height ≤ 1024
