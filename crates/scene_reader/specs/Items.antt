-- The items of a scene, behind those of the lines before.
use Rattle.std.specs.Prelude.{ℕ, ◌+◌, ◌*◌, Bool, true, false, ◌&&◌, ◌||◌, ◌==◌, nat_le, ℤ, pos, negsuc, int_le, List, [], ◌∷◌, length, is_none, if◌then◌else◌, sum_by, Option, None, Some}
use Rattle.scene_reader.specs.declared.items.Atlas.{Atlas}
use Rattle.scene_reader.specs.declared.items.Part.{Part}
use Rattle.scene_reader.specs.declared.items.ScaledPart.{ScaledPart}
use Rattle.scene_reader.specs.declared.items.TiledPart.{TiledPart}
use Rattle.scene_reader.specs.declared.items.ClipBox.{ClipBox}
use Rattle.scene_reader.specs.declared.items.Item.{Item}
use Rattle.scene_reader.specs.declared.items.Item.TheVariants.{Atlas as AtlasItem, Sprite, Smooth, Tile, Clip, NoClip}

-- the atlas with an id
abbrev pub atlas_with : List Item → ℕ → Option Atlas
atlas_with [] id = None
atlas_with (AtlasItem a ∷ more) id = if a.id == id then Some a else atlas_with more id
atlas_with (i ∷ more) id = atlas_with more id

abbrev pub is_between : ℕ → ℕ → ℕ → Bool
is_between low high n = nat_le low n && nat_le n high

-- a power of two up to 1,024: the sides that a texture may have here
abbrev pub is_texture_side : ℕ → Bool
is_texture_side n =
    (n == 1) || (n == 2) || (n == 4) || (n == 8) || (n == 16) || (n == 32) || (n == 64) || (n == 128) || (n == 256) || (n == 512)
    || (n == 1024)

-- a column or a row of the scene in which something may begin
abbrev pub is_place : ℤ → Bool
is_place z = int_le (negsuc 65535) z && int_le z (pos 65535)

-- how often, or how large in pixels, something is drawn in a direction
abbrev pub is_extent : ℕ → Bool
is_extent n = is_between 1 1024 n

-- four bytes a texel
abbrev pub texel_bytes : ℕ → ℕ → ℕ
texel_bytes w h = 4 * w * h

-- an id that no atlas before has, and the sides of a texture
abbrev pub is_new_atlas : List Item → ℕ → ℕ → ℕ → Bool
is_new_atlas before id width height =
    is_between 1 64 id && is_none (atlas_with before id) && is_texture_side width && is_texture_side height

-- such an atlas with all its texels
abbrev pub is_atlas : List Item → Atlas → Bool
is_atlas before a = is_new_atlas before a.id a.width a.height && (length a.texels == texel_bytes a.width a.height)

-- a part lies inside its atlas, which stands before it
abbrev pub lies_inside : Option Atlas → Part → Bool
lies_inside None p = false
lies_inside (Some a) p = nat_le 1 p.width && nat_le 1 p.height && nat_le (p.u + p.width) a.width && nat_le (p.v + p.height) a.height

abbrev pub is_part : List Item → Part → Bool
is_part before p = lies_inside (atlas_with before p.atlas) p

abbrev pub is_scaled : List Item → ScaledPart → Bool
is_scaled before s = is_part before s.part && is_place s.x && is_place s.y && is_extent s.width && is_extent s.height

abbrev pub is_tiled : List Item → TiledPart → Bool
is_tiled before t = is_part before t.part && is_place t.x && is_place t.y && is_extent t.columns && is_extent t.rows

abbrev pub is_clip : ClipBox → Bool
is_clip c = is_place c.x && is_place c.y && nat_le c.width 65535 && nat_le c.height 65535

-- an item that may stand behind these
abbrev pub is_item : List Item → Item → Bool
is_item before (AtlasItem a) = is_atlas before a
is_item before (Sprite s) = is_scaled before s
is_item before (Smooth s) = is_scaled before s
is_item before (Tile t) = is_tiled before t
is_item before (Clip c) = is_clip c
is_item before NoClip = true

-- how many draws an item makes
abbrev pub draws : Item → ℕ
draws (AtlasItem a) = 0
draws (Sprite s) = 1
draws (Smooth s) = 1
draws (Tile t) = t.columns * t.rows
draws (Clip c) = 0
draws NoClip = 0

-- the least power of two that isn't below a number up to 1,024
abbrev pub least_power : ℕ → ℕ
least_power n =
    if nat_le n 1 then 1 else if nat_le n 2 then 2 else if nat_le n 4 then 4 else if nat_le n 8 then 8
    else if nat_le n 16 then 16 else if nat_le n 32 then 32 else if nat_le n 64 then 64 else if nat_le n 128 then 128
    else if nat_le n 256 then 256 else if nat_le n 512 then 512 else 1024

-- how many bytes the texture of an item has: an atlas's, or the one on which a smooth part is made
abbrev pub texture_bytes : Item → ℕ
texture_bytes (AtlasItem a) = texel_bytes a.width a.height
texture_bytes (Sprite s) = 0
texture_bytes (Smooth s) = texel_bytes (least_power s.width) (least_power s.height)
texture_bytes (Tile t) = 0
texture_bytes (Clip c) = 0
texture_bytes NoClip = 0

abbrev pub draws_of : List Item → ℕ
draws_of items = sum_by draws items

abbrev pub bytes_of : List Item → ℕ
bytes_of items = sum_by texture_bytes items
