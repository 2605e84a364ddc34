-- Items that have a texture of their own keep the invariant.
use Rattle.std.proofs.Common.{◌≡◌, ◌≢◌, ℕ, ◌+◌, ◌*◌, ◌<◌, ◌≤◌, true, false, cond, inl, inr, ◌⊎◌, List, [], ◌∷◌, ◌++◌, length, refl, sym, subst, ap, ◌∙◌, arith, Option, None, Some}
use Rattle.std.specs.Prelude.{◌==◌, slice_index}
use Rattle.std.specs.Option.{option_or}
use Rattle.std.proofs.lemmas.Bool.{cases_eq, cond-false, cond-true, eq-eqb, ne_eqb}
use Rattle.std.proofs.lemmas.List.{length-append}
use Rattle.std.proofs.Math.Nat.{mul_assoc, mul_comm}
use Rattle.egl_model.specs.State.{State}
use Rattle.scene_reader.specs.Items.{atlas_with, bytes_of, is_texture_side}
use Rattle.scene_reader.specs.declared.items.Atlas.{Atlas}
use Rattle.scene_reader.specs.declared.items.ClipBox.{ClipBox}
use Rattle.scene_reader.specs.declared.items.Item.{Item}
use Rattle.scene_reader.specs.declared.items.Item.TheVariants.{Atlas as AtlasItem}
use Rattle.sprite_scene.specs.Calls.{new_texture}
use Rattle.sprite_scene.specs.Draws.{Draw}
use Rattle.sprite_scene.specs.Runs.{after}
use Rattle.sprite_scene.specs.Samples.{texel}
use Rattle.sprite_scene.proofs.ItemLaws.{atlas_append, bytes_more}
use Rattle.sprite_scene.proofs.NameLaws.{object_put_other}
use Rattle.sprite_scene.proofs.NewTextures.{texture_plays}
use Rattle.sprite_scene.proofs.Pictures.{image_picture}
use Rattle.sprite_scene.proofs.Plays.{Plays}
use Rattle.sprite_scene.proofs.SideLaws.{side_range}
use Rattle.sprite_scene.proofs.Stages.{Stage}
use Rattle.sprite_scene.proofs.TextureCalls.{with_texture_named}
use Rattle.sprite_scene.proofs.Views.{Has, Stands}

-- ---- The atlases once one more was there.
one_atlas : (a : Atlas) (id : ℕ) → a.id ≡ id → atlas_with (AtlasItem a ∷ []) id ≡ Some a
one_atlas a id e = cond-true (a.id == id) (Some a) None (eq-eqb a.id id e)

other_atlas : (a : Atlas) (id : ℕ) → a.id ≢ id → atlas_with (AtlasItem a ∷ []) id ≡ None
other_atlas a id e = cond-false (a.id == id) (Some a) None (ne_eqb a.id id e)

neither : (o p : Option Atlas) → option_or o p ≡ None → (o ≡ None) × (p ≡ None)
neither None p h = (refl, h)
neither (Some y) p h = absurd (let e : Some y ≡ None = h in cc)

found_or : (o p : Option Atlas) (x : Atlas) → option_or o p ≡ Some x → (o ≡ Some x) ⊎ (p ≡ Some x)
found_or (Some y) p x h = inl h
found_or None p x h = inr h

some_is : (a x : Atlas) → Some a ≡ Some x → a ≡ x
some_is a x h = cc

-- an atlas is one of those before, or the new one
which : (before : List Item) (a : Atlas) (id : ℕ) (x : Atlas) → atlas_with (before ++ AtlasItem a ∷ []) id ≡ Some x → (atlas_with before id ≡ Some x) ⊎ ((a.id ≡ id) × (a ≡ x))
which before a id x h = elim (found_or (atlas_with before id) (atlas_with (AtlasItem a ∷ []) id) x (sym (atlas_append before (AtlasItem a ∷ []) id) ∙ h)) [
  | inl e ↦ inl e
  | inr e ↦ elim (cases_eq a.id id) [
    | inl q ↦ inr (q, some_is a x (sym (one_atlas a id q) ∙ e))
    | inr ne ↦ absurd (let f : None ≡ Some x = sym (other_atlas a id ne) ∙ e in cc)
  ]
]

not_both : (o : Option Atlas) (x : Atlas) → o ≡ None → o ≡ Some x → ⊥
not_both o x e f = let g : None ≡ Some x = sym e ∙ f in cc

-- ---- An atlas.
pub atlas_plays : (w h : ℕ) (clip : Option ClipBox) (before : List Item) (ds : List Draw) (s : State) (a : Atlas) (st : Stage w h clip before ds s) → 1 ≤ a.id → a.id ≤ 64 → atlas_with before a.id ≡ None → is_texture_side a.width ≡ true → is_texture_side a.height ≡ true →
    ((k : ℕ) → slice_index a.texels k < 256) → st.view.w * st.view.h * 4 + bytes_of before + a.width * a.height * 4 ≤ 1073741824 →
    Plays s (new_texture a.id a.width a.height a.texels) (Stage w h clip (before ++ AtlasItem a ∷ []) ds)
atlas_plays w h clip before ds s a st low high new sw sh small room =
    let v = st.view in
    let b = v.w * v.h * 4 + bytes_of before in
    let p = texture_plays s v b a.id a.width a.height a.texels (texel (Some a)) st.stands (omega (arith, low)) (st.free a.id new (inl high)) sw sh room
    (image_picture a.width a.height a.texels (side_range a.width sw).high (side_range a.height sh).high small) in
    let n = p.holds in
    let bytes = bytes_more before (AtlasItem a) in
    let size = ap (λ k. k * a.height) (mul_comm 4 a.width) in
    let same : a.width * a.height * 4 ≡ 4 * a.width * a.height = let x = mul_comm (a.width * a.height) 4 in let y = mul_assoc 4 a.width a.height in x ∙ sym y in
    let long = length-append before (AtlasItem a ∷ []) in
    let behind : State = after s (new_texture a.id a.width a.height a.texels) in
    let u = with_texture_named v a.id n.object in
    record {
      done = p.done;
      holds = record {
        view = with_texture_named v a.id n.object;
        wide = st.wide;
        high = st.high;
        box = st.box;
        stands = subst (Stands behind u) (let e : b + a.width * a.height * 4 ≡ v.w * v.h * 4 + bytes_of (before ++ AtlasItem a ∷ []) = omega (arith, bytes, same) in e) n.stands;
        picture = st.picture;
        bytes = st.bytes;
        ids = λ id x e. elim (which before a id x e) [
          | inl old ↦ st.ids id x old
          | inr same ↦ (let q = same.0 in omega (arith, q, low), let q = same.0 in omega (arith, q, high))
        ];
        small = λ id x e. elim (which before a id x e) [
          | inl old ↦ st.small id x old
          | inr same ↦ subst (λ (y : Atlas). (k : ℕ) → slice_index y.texels k < 256) same.1 small
        ];
        atlases = λ id x e. elim (which before a id x e) [
          | inl old ↦ n.keeps id x.width x.height (texel (Some x)) (λ q. not_both (atlas_with before id) x (ap (atlas_with before) (sym q) ∙ new) old) (st.atlases id x old)
          | inr same ↦ subst (λ (y : Atlas). Has behind.objects u.names id y.width y.height (texel (Some y))) same.1 (subst (λ (k : ℕ). Has behind.objects u.names k a.width a.height (texel (Some a))) same.0 n.has)
        ];
        free = λ k e l.
            let parts = neither (atlas_with before k) (atlas_with (AtlasItem a ∷ []) k) (sym (atlas_append before (AtlasItem a ∷ []) k) ∙ e) in
            object_put_other k a.id n.object v.names (λ q. not_both (atlas_with (AtlasItem a ∷ []) k) a parts.1 (one_atlas a k q)) ∙ st.free k parts.0 (shorter k l long);
      };
    }
  where
    shorter : (id : ℕ) → (id ≤ 64) ⊎ (65 + length (before ++ AtlasItem a ∷ []) ≤ id) → length (before ++ AtlasItem a ∷ []) ≡ length before + length (AtlasItem a ∷ []) → (id ≤ 64) ⊎ (65 + length before ≤ id)
    shorter id (inl l) e = inl l
    shorter id (inr l) e = inr (omega (arith, l, e))
