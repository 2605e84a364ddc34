-- Items in a row.
use Rattle.std.proofs.Common.{◌≡◌, ℕ, ◌+◌, ◌<◌, ◌≤◌, pos, Bool, true, false, cond, List, [], ◌∷◌, ◌++◌, refl, ap, ◌∙◌, arith, Option, None, Some}
use Rattle.std.specs.Prelude.{◌==◌}
use Rattle.std.specs.Option.{option_or}
use Rattle.std.proofs.lemmas.Bool.Decides.{nat_tests}
use Rattle.std.proofs.lemmas.Int.{ints}
use Rattle.std.proofs.lemmas.List.Sums.{sum_by-append}
use Rattle.pixel_rows.specs.Rects.{is_in}
use Rattle.rect_pipeline.specs.Targets.{rect_of}
use Rattle.scene_reader.specs.Items.{atlas_with, bytes_of, is_extent, lies_inside, texture_bytes}
use Rattle.scene_reader.specs.declared.items.Atlas.{Atlas}
use Rattle.scene_reader.specs.declared.items.ClipBox.{ClipBox}
use Rattle.scene_reader.specs.declared.items.Item.{Item}
use Rattle.scene_reader.specs.declared.items.Item.TheVariants.{Atlas as AtlasItem, Sprite, Smooth, Tile, Clip, NoClip}
use Rattle.scene_reader.specs.declared.items.Part.{Part}
use Rattle.sprite_scene.specs.Draws.{allows}
use Rattle.sprite_scene.proofs.Stages.{box_of}

-- ---- The atlases of items.
or_none : (o : Option Atlas) → option_or o None ≡ o
or_none None = refl
or_none (Some a) = refl

or_first : (b : Bool) (a : Atlas) (o p : Option Atlas) → cond b (Some a) (option_or o p) ≡ option_or (cond b (Some a) o) p
or_first true a o p = refl
or_first false a o p = refl

pub atlas_append : (xs ys : List Item) (id : ℕ) → atlas_with (xs ++ ys) id ≡ option_or (atlas_with xs id) (atlas_with ys id)
atlas_append [] ys id = refl
atlas_append (AtlasItem a ∷ xs) ys id = ap (λ o. cond (a.id == id) (Some a) o) (atlas_append xs ys id) ∙ or_first (a.id == id) a (atlas_with xs id) (atlas_with ys id)
atlas_append (Sprite s ∷ xs) ys id = atlas_append xs ys id
atlas_append (Smooth s ∷ xs) ys id = atlas_append xs ys id
atlas_append (Tile t ∷ xs) ys id = atlas_append xs ys id
atlas_append (Clip c ∷ xs) ys id = atlas_append xs ys id
atlas_append (NoClip ∷ xs) ys id = atlas_append xs ys id

-- an item that is no atlas
pub record IsNoAtlas (i : Item) : Type 0 where
  pub none : (id : ℕ) → atlas_with (i ∷ []) id ≡ None

pub no_atlas_more : (before : List Item) (i : Item) (id : ℕ) → IsNoAtlas i → atlas_with (before ++ i ∷ []) id ≡ atlas_with before id
no_atlas_more before i id n = atlas_append before (i ∷ []) id ∙ ap (option_or (atlas_with before id)) (n.none id) ∙ or_none (atlas_with before id)

pub bytes_more : (before : List Item) (i : Item) → bytes_of (before ++ i ∷ []) ≡ bytes_of before + texture_bytes i
bytes_more before i = let e = sum_by-append texture_bytes before (i ∷ []) in omega (arith, e)

-- ---- Parts.
pub record IsIn (o : Option Atlas) (p : Part) : Type 0 where
  pub atlas : Atlas
  pub is : o ≡ Some atlas
  pub some_columns : 1 ≤ p.width
  pub some_rows : 1 ≤ p.height
  pub columns : p.u + p.width ≤ atlas.width
  pub rows : p.v + p.height ≤ atlas.height

pub lies_in : (o : Option Atlas) (p : Part) → lies_inside o p ≡ true → IsIn o p
lies_in None p h = absurd (let e : false ≡ true = h in cc)
lies_in (Some a) p h = record {
  atlas = a;
  is = refl;
  some_columns = grind (arith, nat_tests);
  some_rows = grind (arith, nat_tests);
  columns = grind (arith, nat_tests);
  rows = grind (arith, nat_tests);
}

pub record IsExtent (n : ℕ) : Type 0 where
  pub low : 1 ≤ n
  pub high : n ≤ 1024

pub extent_is : (n : ℕ) → is_extent n ≡ true → IsExtent n
extent_is n h = record { low = grind (arith, nat_tests); high = grind (arith, nat_tests) }

-- ---- Clips: on the target the scissor box holds what the clip holds.
all_in : (w h x y : ℕ) → x < w → y < h → true ≡ is_in (record { x = pos 0; y = pos 0; w = pos w; h = pos h }) x y
all_in w h x y l m = grind (arith, nat_tests, ints)

pub allowed : (w h : ℕ) (clip : Option ClipBox) (x y : ℕ) → x < w → y < h → allows clip x y ≡ is_in (rect_of (box_of w h clip)) x y
allowed w h None x y l m = all_in w h x y l m
allowed w h (Some c) x y l m = refl
