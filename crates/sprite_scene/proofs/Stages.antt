-- While a scene is drawn: the target's pixels are those of what was painted so far, and the scissor box is that of the scene's clip.
use Rattle.std.proofs.Common.{◌≡◌, ℕ, ◌+◌, ◌*◌, ◌<◌, ◌≤◌, ℤ, pos, Bool, true, false, cond, ◌⊎◌, List, [], ◌∷◌, ◌++◌, length, refl, ap, ◌∙◌, Option, None, Some}
use Rattle.std.specs.Prelude.{reverse, slice_index}
use Rattle.std.specs.List.{find}
use Rattle.std.specs.Option.{option_map_or}
use Rattle.std.proofs.lemmas.List.{reverse-append}
use Rattle.pixel_formats.specs.Bounds.{IsBytes}
use Rattle.pixel_rows.specs.Images.{no_pixel}
use Rattle.share_group.specs.Names.{object_of}
use Rattle.egl_model.specs.State.{State}
use Rattle.scene_reader.specs.Items.{atlas_with, bytes_of}
use Rattle.scene_reader.specs.declared.items.Atlas.{Atlas}
use Rattle.scene_reader.specs.declared.items.ClipBox.{ClipBox}
use Rattle.scene_reader.specs.declared.items.Item.{Item}
use Rattle.sprite_scene.specs.Draws.{Draw, writes}
use Rattle.sprite_scene.specs.Painted.{pixel_of}
use Rattle.sprite_scene.specs.Samples.{sample, texel}
use Rattle.sprite_scene.proofs.Views.{Has, IsPicture, Stands, View}

-- the scissor box of a clip, on a target of sides w and h
abbrev pub box_of : ℕ → ℕ → Option ClipBox → List ℤ
box_of w h None = pos 0 ∷ pos 0 ∷ pos w ∷ pos h ∷ []
box_of w h (Some c) = c.x ∷ c.y ∷ pos c.width ∷ pos c.height ∷ []

-- behind some items, under a clip, with these draws painted
pub record Stage (w h : ℕ) (clip : Option ClipBox) (before : List Item) (ds : List Draw) (s : State) : Type 0 where
  pub view : View
  pub wide : view.w ≡ w
  pub high : view.h ≡ h
  pub box : view.clip ≡ box_of view.w view.h clip
  pub stands : Stands s view (view.w * view.h * 4 + bytes_of before)
  pub picture : IsPicture view.w view.h (pixel_of ds) view.target
  -- each atlas has bytes for texels, and a texture by the name that is its id
  pub ids : (id : ℕ) (a : Atlas) → atlas_with before id ≡ Some a → (1 ≤ id) × (id ≤ 64)
  pub small : (id : ℕ) (a : Atlas) → atlas_with before id ≡ Some a → (k : ℕ) → slice_index a.texels k < 256
  pub atlases : (id : ℕ) (a : Atlas) → atlas_with before id ≡ Some a → Has s.objects view.names id a.width a.height (texel (Some a))
  pub bytes : (x y : ℕ) → IsBytes (pixel_of ds x y)
  -- and names of atlases and smooth parts to come have none
  pub free : (n : ℕ) → atlas_with before n ≡ None → (n ≤ 64) ⊎ (65 + length before ≤ n) → object_of n view.names ≡ None

-- ---- One more draw.
chosen : (b : Bool) (d : Draw) (o : Option Draw) (x y : ℕ) → option_map_or (λ e. sample e x y) (cond b (Some d) o) no_pixel ≡ cond b (sample d x y) (option_map_or (λ e. sample e x y) o no_pixel)
chosen true d o x y = refl
chosen false d o x y = refl

pub one_more : (ds : List Draw) (d : Draw) (x y : ℕ) → pixel_of (ds ++ d ∷ []) x y ≡ cond (writes x y d) (sample d x y) (pixel_of ds x y)
one_more ds d x y =
    ap (λ es. option_map_or (λ e. sample e x y) (find (writes x y) es) no_pixel) (reverse-append ds (d ∷ []))
    ∙ chosen (writes x y d) d (find (writes x y) (reverse ds)) x y
