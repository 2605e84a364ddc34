-- What items ask of those before them.
use Rattle.std.proofs.Common.{◌≡◌, ℕ, zero, suc, ◌+◌, ◌<◌, ◌≤◌, ℤ, pos, negsuc, Bool, true, false, cond, List, [], ◌∷◌, ◌++◌, length, take, get_or, sym, subst, ap, ◌∙◌, arith, append_assoc, Option, None, Some}
use Rattle.std.specs.Prelude.{◌==◌, int_le}
use Rattle.std.proofs.lemmas.Bool.{and_parts}
use Rattle.std.proofs.lemmas.List.{append-nil}
use Rattle.std.proofs.lemmas.Int.{ints}
use Rattle.egl_calls.specs.Ranges.{IsNumber}
use Rattle.scene_reader.specs.Items.{atlas_with, is_item, is_place}
use Rattle.scene_reader.specs.Scenes.{AreItems}
use Rattle.scene_reader.specs.declared.items.Atlas.{Atlas}
use Rattle.scene_reader.specs.declared.items.ClipBox.{ClipBox}
use Rattle.scene_reader.specs.declared.items.Item.{Item}
use Rattle.scene_reader.specs.declared.items.Item.TheVariants.{Atlas as AtlasItem, Sprite, Smooth, Tile, Clip, NoClip}
use Rattle.scene_reader.specs.declared.items.ScaledPart.{ScaledPart}
use Rattle.scene_reader.specs.declared.items.TiledPart.{TiledPart}
use Rattle.sprite_scene.specs.Parts.{IsDrawnPart, IsPlaced, IsTiled}
use Rattle.sprite_scene.proofs.Finishing.{is_new}
use Rattle.sprite_scene.proofs.ItemLaws.{IsIn, extent_is, lies_in}
use Rattle.sprite_scene.proofs.Pictures.{at_most}
use Rattle.sprite_scene.proofs.SideLaws.{side_range}

-- an atlas has sides of a texture
pub record IsSided (a : Atlas) : Type 0 where
  pub wide : a.width ≤ 1024
  pub high : a.height ≤ 1024

pub some_is : (a b : Atlas) → Some a ≡ Some b → a ≡ b
some_is a b h = cc

sided : (b : Bool) (x a : Atlas) (o : Option Atlas) → IsSided x → (o ≡ Some a → IsSided a) → cond b (Some x) o ≡ Some a → IsSided a
sided true x a o s more h = subst IsSided (some_is x a h) s
sided false x a o s more h = more h

pub atlas_sides : (seen before : List Item) (id : ℕ) (a : Atlas) → AreItems seen before → atlas_with before id ≡ Some a → IsSided a
atlas_sides seen [] id a are h = absurd (let e : None ≡ Some a = h in cc)
atlas_sides seen (AtlasItem x ∷ more) id a are h =
    let n = is_new seen x are.0 in
    sided (x.id == id) x a (atlas_with more id) (record { wide = (side_range x.width n.wide).high; high = (side_range x.height n.tall).high }) (atlas_sides (seen ++ AtlasItem x ∷ []) more id a are.1) h
atlas_sides seen (Sprite s ∷ more) id a are h = atlas_sides (seen ++ Sprite s ∷ []) more id a are.1 h
atlas_sides seen (Smooth s ∷ more) id a are h = atlas_sides (seen ++ Smooth s ∷ []) more id a are.1 h
atlas_sides seen (Tile t ∷ more) id a are h = atlas_sides (seen ++ Tile t ∷ []) more id a are.1 h
atlas_sides seen (Clip c ∷ more) id a are h = atlas_sides (seen ++ Clip c ∷ []) more id a are.1 h
atlas_sides seen (NoClip ∷ more) id a are h = atlas_sides (seen ++ NoClip ∷ []) more id a are.1 h

-- the first items are items
pub taken_items : (seen xs : List Item) (k : ℕ) → AreItems seen xs → AreItems seen (take k xs)
taken_items seen [] zero a = tt
taken_items seen [] (suc k) a = tt
taken_items seen (x ∷ xs) zero a = tt
taken_items seen (x ∷ xs) (suc k) a = (a.0, taken_items (seen ++ x ∷ []) xs k a.1)

item_behind : (seen xs : List Item) (k : ℕ) (d : Item) → AreItems seen xs → k < length xs → is_item (seen ++ take k xs) (get_or xs k d) ≡ true
item_behind seen [] k d a l = absurd (omega arith)
item_behind seen (x ∷ xs) zero d a l = ap (λ ys. is_item ys x) (append-nil seen) ∙ a.0
item_behind seen (x ∷ xs) (suc k) d a l = ap (λ ys. is_item ys (get_or xs k d)) (sym (append_assoc seen (x ∷ []) (take k xs))) ∙ item_behind (seen ++ x ∷ []) xs k d a.1 (omega (arith, l))

pub item_at : (xs : List Item) (k : ℕ) (i : Item) → AreItems [] xs → k < length xs → i ≡ get_or xs k i → is_item (take k xs) i ≡ true
item_at xs k i a l e = ap (is_item (take k xs)) e ∙ item_behind [] xs k i a l

-- ---- Numbers.
pub placed : (z : ℤ) → is_place z ≡ true → IsPlaced z
placed z h = let p = and_parts (int_le (negsuc 65535) z) (int_le z (pos 65535)) h in record { low = at_most (negsuc 65535) z p.0; high = at_most z (pos 65535) p.1 }

pub placed_number : (z : ℤ) → IsPlaced z → IsNumber z
placed_number z p = let a = p.low in let b = p.high in record { low = omega (arith, ints); high = omega (arith, ints) }

-- ---- Parts.
pub record IsScaledItem (before : List Item) (s : ScaledPart) : Type 0 where
  pub part : IsIn (atlas_with before s.part.atlas) s.part
  pub x : IsNumber s.x
  pub y : IsNumber s.y
  pub some_wide : 1 ≤ s.width
  pub wide : s.width ≤ 1024
  pub some_high : 1 ≤ s.height
  pub high : s.height ≤ 1024

pub sprite_item : (before : List Item) (s : ScaledPart) → is_item before (Sprite s) ≡ true → IsScaledItem before s
sprite_item before s h =
    let a = and_parts _ _ h in
    let b = and_parts _ _ a.0 in
    let c = and_parts _ _ b.0 in
    let d = and_parts _ _ c.0 in
    let w = extent_is s.width b.1 in
    let t = extent_is s.height a.1 in
    record { part = lies_in (atlas_with before s.part.atlas) s.part d.0; x = placed_number s.x (placed s.x d.1); y = placed_number s.y (placed s.y c.1); some_wide = w.low; wide = w.high; some_high = t.low; high = t.high }

pub smooth_fits : (before : List Item) (s : ScaledPart) (a : Atlas) → AreItems [] before → is_item before (Smooth s) ≡ true → atlas_with before s.part.atlas ≡ Some a → IsDrawnPart a s
smooth_fits before s a are h e =
    let i = sprite_item before s h in
    let same = some_is i.part.atlas a (sym i.part.is ∙ e) in
    let sides = atlas_sides [] before s.part.atlas a are e in
    record {
      part = record {
        some_columns = i.part.some_columns;
        some_rows = i.part.some_rows;
        columns = subst (λ (x : Atlas). s.part.u + s.part.width ≤ x.width) same i.part.columns;
        rows = subst (λ (x : Atlas). s.part.v + s.part.height ≤ x.height) same i.part.rows;
        wide = sides.wide;
        high = sides.high;
      };
      some_wide = i.some_wide;
      some_high = i.some_high;
      wide = i.wide;
      high = i.high;
    }

pub tile_fits : (before : List Item) (t : TiledPart) → AreItems [] before → is_item before (Tile t) ≡ true → IsTiled t
tile_fits before t are h =
    let a = and_parts _ _ h in
    let b = and_parts _ _ a.0 in
    let c = and_parts _ _ b.0 in
    let d = and_parts _ _ c.0 in
    let i = lies_in (atlas_with before t.part.atlas) t.part d.0 in
    let sides = atlas_sides [] before t.part.atlas i.atlas are i.is in
    let w = sides.wide in
    let u = sides.high in
    let p = i.columns in
    let q = i.rows in
    record { across = placed t.x d.1; up = placed t.y c.1; columns = (extent_is t.columns b.1).high; rows = (extent_is t.rows a.1).high; wide = omega (arith, w, p); high = omega (arith, u, q) }

pub clip_x : (before : List Item) (c : ClipBox) → is_item before (Clip c) ≡ true → IsNumber c.x
clip_x before c h = let a = and_parts _ _ h in let b = and_parts _ _ a.0 in let d = and_parts _ _ b.0 in placed_number c.x (placed c.x d.0)

pub clip_y : (before : List Item) (c : ClipBox) → is_item before (Clip c) ≡ true → IsNumber c.y
clip_y before c h = let a = and_parts _ _ h in let b = and_parts _ _ a.0 in let d = and_parts _ _ b.0 in placed_number c.y (placed c.y d.1)

-- an item that is smooth has its atlas
pub smooth_atlas : (before : List Item) (s : ScaledPart) → is_item before (Smooth s) ≡ true → atlas_with before s.part.atlas ≡ None → ⊥
smooth_atlas before s h e = let i = sprite_item before s h in let f : Some i.part.atlas ≡ None = sym i.part.is ∙ e in cc
