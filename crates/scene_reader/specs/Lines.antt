-- What the lines of a scene say.
use Rattle.std.specs.Prelude.{ℕ, ◌+◌, Bool, ◌==◌, ℤ, List, [], ◌∷◌, ◌++◌, if◌then◌else◌, length, codes, Option, Result, Ok, Err, None, Some}
use Rattle.std.specs.Str.{bytes_eq}
use Rattle.trace_reader.specs.declared.traces.Reason.{Reason}
use Rattle.trace_reader.specs.declared.traces.Reason.TheVariants.{Argument, Limit, Name}
use Rattle.trace_reader.specs.Reasons.{◌>>=◌, or_reason, provided}
use Rattle.trace_reader.specs.Words.{words, word_at, is_skipped}
use Rattle.trace_reader.specs.Numerals.{numeral, signed_number}
use Rattle.trace_reader.specs.Payloads.{payload}
use Rattle.scene_reader.specs.declared.items.Atlas.{Atlas}
use Rattle.scene_reader.specs.declared.lines.AtlasFrame.{AtlasFrame}
use Rattle.scene_reader.specs.declared.items.Part.{Part}
use Rattle.scene_reader.specs.declared.items.ScaledPart.{ScaledPart}
use Rattle.scene_reader.specs.declared.items.TiledPart.{TiledPart}
use Rattle.scene_reader.specs.declared.items.ClipBox.{ClipBox}
use Rattle.scene_reader.specs.declared.items.Item.{Item}
use Rattle.scene_reader.specs.declared.items.Item.TheVariants.{Atlas as AtlasItem, Sprite, Smooth, Tile, Clip, NoClip}
use Rattle.scene_reader.specs.Items.{is_clip, is_new_atlas, is_scaled, is_tiled, texel_bytes}
use Rattle.scene_reader.specs.Scenes.{has_room}

-- a decimal number of at most 32 bits
unfoldable pub natural_of : List ℕ → Result ℕ Reason
natural_of w = or_reason (numeral 4294967295 w) Argument

-- the same, or one with a sign
unfoldable pub integer_of : List ℕ → Result ℤ Reason
integer_of w = or_reason (signed_number w) Argument

-- what passes a test
abbrev pub tested : {A : Type 0} → (A → Bool) → A → Result A Reason
tested test x = provided (test x) Argument (Ok x)

-- bytes, of which there are so many; the null pointer is none
abbrev pub sized : ℕ → Option (Option (List ℕ)) → Result (List ℕ) Reason
sized size None = Err Argument
sized size (Some None) = Err Argument
sized size (Some (Some bs)) = if length bs == size then Ok bs else Err Argument

-- the texels of a payload
unfoldable pub texels_of : ℕ → List ℕ → Result (List ℕ) Reason
texels_of size w = sized size (payload w)

abbrev pub is_new : List Item → AtlasFrame → Bool
is_new before f = is_new_atlas before f.id f.width f.height

-- an id that no atlas before has, and the sides of a texture: atlas ID W H ..
unfoldable pub frame_of : List Item → List (List ℕ) → Result AtlasFrame Reason
frame_of before ws = provided (length ws == 5) Argument (do
  id ← natural_of (word_at ws 1)
  width ← natural_of (word_at ws 2)
  height ← natural_of (word_at ws 3)
  tested (is_new before) (record { id = id; width = width; height = height }))

-- atlas ID W H PAYLOAD
unfoldable pub atlas_of : List Item → List (List ℕ) → Result Atlas Reason
atlas_of before ws = do
  frame ← frame_of before ws
  texels ← texels_of (texel_bytes frame.width frame.height) (word_at ws 4)
  Ok (record { id = frame.id; width = frame.width; height = frame.height; texels = texels })

-- the part that .. ID U V W H .. names
unfoldable pub part_of : List (List ℕ) → Result Part Reason
part_of ws = do
  atlas ← natural_of (word_at ws 1)
  u ← natural_of (word_at ws 2)
  v ← natural_of (word_at ws 3)
  width ← natural_of (word_at ws 4)
  height ← natural_of (word_at ws 5)
  Ok (record { atlas = atlas; u = u; v = v; width = width; height = height })

-- .. ID U V W H X Y DW DH
unfoldable pub scaled_of : List Item → List (List ℕ) → Result ScaledPart Reason
scaled_of before ws = provided (length ws == 10) Argument (do
  part ← part_of ws
  x ← integer_of (word_at ws 6)
  y ← integer_of (word_at ws 7)
  width ← natural_of (word_at ws 8)
  height ← natural_of (word_at ws 9)
  tested (is_scaled before) (record { part = part; x = x; y = y; width = width; height = height }))

-- tile ID U V W H X Y COLS ROWS
unfoldable pub tiled_of : List Item → List (List ℕ) → Result TiledPart Reason
tiled_of before ws = provided (length ws == 10) Argument (do
  part ← part_of ws
  x ← integer_of (word_at ws 6)
  y ← integer_of (word_at ws 7)
  columns ← natural_of (word_at ws 8)
  rows ← natural_of (word_at ws 9)
  tested (is_tiled before) (record { part = part; x = x; y = y; columns = columns; rows = rows }))

-- clip X Y W H
unfoldable pub clip_of : List (List ℕ) → Result ClipBox Reason
clip_of ws = provided (length ws == 5) Argument (do
  x ← integer_of (word_at ws 1)
  y ← integer_of (word_at ws 2)
  width ← natural_of (word_at ws 3)
  height ← natural_of (word_at ws 4)
  tested is_clip (record { x = x; y = y; width = width; height = height }))

abbrev pub begins : List (List ℕ) → List ℕ → Bool
begins ws word = bytes_eq (word_at ws 0) word

-- an item that isn't an atlas, behind these
unfoldable pub drawn_of : List Item → List (List ℕ) → Result Item Reason
drawn_of before ws =
    if begins ws (codes "sprite") then scaled_of before ws >>= (λ s. Ok (Sprite s))
    else if begins ws (codes "smooth") then scaled_of before ws >>= (λ s. Ok (Smooth s))
    else if begins ws (codes "tile") then tiled_of before ws >>= (λ t. Ok (Tile t))
    else if begins ws (codes "clip") then clip_of ws >>= (λ c. Ok (Clip c))
    else if begins ws (codes "noclip") then provided (length ws == 1) Argument (Ok NoClip)
    else Err Name

-- the item that the words of a line say behind these, or their first defect but for a limit
unfoldable pub item_of : List Item → List (List ℕ) → Result Item Reason
item_of before ws =
    if begins ws (codes "atlas") then atlas_of before ws >>= (λ a. Ok (AtlasItem a))
    else drawn_of before ws

-- the items with one more, where that passes no limit
abbrev pub with_item : List Item → Item → Result (List Item) Reason
with_item before i = provided (has_room before i) Limit (Ok (before ++ i ∷ []))

-- the items behind one more line, or its first defect
unfoldable pub line_behind : List Item → List ℕ → Result (List Item) Reason
line_behind before line = if is_skipped line then Ok before else item_of before (words line) >>= with_item before
