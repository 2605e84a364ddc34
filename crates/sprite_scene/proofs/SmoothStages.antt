-- A smooth part keeps the invariant.
use Rattle.std.proofs.Common.{◌≡◌, ℕ, ◌+◌, ◌-◌, ◌*◌, ◌<◌, ◌≤◌, ℤ, pos, true, ◌&&◌, cond, inl, inr, ◌⊎◌, List, [], ◌∷◌, ◌++◌, length, refl, sym, subst, ap, ◌∙◌, arith, Option, None, Some}
use Rattle.std.specs.Prelude.{◌-ℤ◌, nat_lt, slice_index}
use Rattle.std.proofs.lemmas.Bool.{and_from, and_parts, cond-true}
use Rattle.std.proofs.lemmas.List.{length-append}
use Rattle.std.proofs.lemmas.List.Elements.{All-cons, All-nil}
use Rattle.std.proofs.Math.Nat.{mul_assoc, mul_comm}
use Rattle.call_rules.proofs.TestLaws.{is_past}
use Rattle.egl_calls.specs.Ranges.{unsigned}
use Rattle.pixel_formats.specs.Bounds.{IsBytes}
use Rattle.pixel_formats.specs.declared.pixels.Pixel.{Pixel}
use Rattle.pixel_rows.specs.Images.{no_pixel}
use Rattle.pixel_rows.specs.Rects.{is_in, is_in_span}
use Rattle.rect_pipeline.specs.Targets.{rect_of}
use Rattle.egl_model.specs.State.{State}
use Rattle.scene_reader.specs.Items.{atlas_with, bytes_of, least_power}
use Rattle.scene_reader.specs.declared.items.Atlas.{Atlas}
use Rattle.scene_reader.specs.declared.items.ClipBox.{ClipBox}
use Rattle.scene_reader.specs.declared.items.Item.{Item}
use Rattle.scene_reader.specs.declared.items.Item.TheVariants.{Smooth}
use Rattle.scene_reader.specs.declared.items.ScaledPart.{ScaledPart}
use Rattle.sprite_scene.specs.Calls.{crop, draw_tex, new_texture, smooth_calls, smooth_texel, smooth_texels}
use Rattle.sprite_scene.specs.Draws.{Draw, draw_of, drawn_rect}
use Rattle.sprite_scene.specs.Painted.{pixel_of, picture}
use Rattle.sprite_scene.specs.Runs.{after}
use Rattle.sprite_scene.specs.Samples.{nearest, smooth_at, texel}
use Rattle.sprite_scene.proofs.DrawnParts.{IsShownBy, cut_plays, picture_as}
use Rattle.sprite_scene.proofs.ItemLaws.{IsNoAtlas, allowed, bytes_more, no_atlas_more}
use Rattle.sprite_scene.proofs.ItemStages.{Scaled}
use Rattle.sprite_scene.proofs.NameLaws.{object_put, object_put_other}
use Rattle.sprite_scene.proofs.NewTextures.{HasNew, texture_plays}
use Rattle.sprite_scene.proofs.Pictures.{image_picture, offset_in, texels_of}
use Rattle.sprite_scene.proofs.PixelCalls.{image_of}
use Rattle.sprite_scene.proofs.Plays.{Plays, plays_append}
use Rattle.sprite_scene.proofs.SideLaws.{power_above, power_side, side_range}
use Rattle.sprite_scene.proofs.SmoothLaws.{nearest_own, shows_picture, small_picture, smooth_texel_bytes}
use Rattle.sprite_scene.proofs.Stages.{Stage, box_of}
use Rattle.sprite_scene.proofs.TextureCalls.{with_texture_named}
use Rattle.sprite_scene.proofs.Views.{IsPicture, Stands, View}

-- ---- The texture of a smooth part.
smooth_picture : (a : Atlas) (p : ScaledPart) → ((k : ℕ) → slice_index a.texels k < 256) → 1 ≤ p.width → 1 ≤ p.height →
    IsPicture (least_power p.width) (least_power p.height) (smooth_texel (Some a) p) (image_of (least_power p.width) (least_power p.height) (smooth_texels (Some a) p))
unfolding smooth_texels
smooth_picture a p small x y =
    let w = least_power p.width in
    let h = least_power p.height in
    let f : ℕ → ℕ → Pixel = smooth_texel (Some a) p in
    picture_as (image_of w h (picture f w h)) w h (texels_of (picture f w h) w) f (λ i j l m. shows_picture f w h i j l m)
    (image_picture w h (picture f w h) (side_range w (power_side p.width)).high (side_range h (power_side p.height)).high (small_picture f w h (λ i j. smooth_texel_bytes a p i j small x y)))

-- it is drawn unscaled
smooth_shown : (v : View) (clip : Option ClipBox) (before : List Item) (p : ScaledPart) (a : Atlas) → v.clip ≡ box_of v.w v.h clip → atlas_with before p.part.atlas ≡ Some a → 1 ≤ p.width → 1 ≤ p.height →
    IsShownBy v.w v.h v.clip (smooth_texel (Some a) p) 0 0 p.width p.height (draw_of clip before true p)
smooth_shown v clip before p a box e x y = record {
  some_wide = x;
  some_high = y;
  writes_as = λ i j l m. ap (λ b. b && is_in (drawn_rect p) i j) (allowed v.w v.h clip i j l m ∙ ap (λ c. is_in (rect_of c) i j) (sym box));
  shows = λ i j on.
      let q = and_parts (is_in_span p.x (pos p.width) i) (is_in_span p.y (pos p.height) j) on in
      let column = offset_in p.x p.width i q.0 in
      let row = offset_in p.y p.height j q.1 in
      let c : ℕ = unsigned (pos i -ℤ p.x) in
      let r : ℕ = unsigned (pos j -ℤ p.y) in
      ap (λ o. smooth_at o p c r) e
      ∙ sym (cond-true (nat_lt c p.width && nat_lt r p.height) (smooth_at (Some a) p c r) no_pixel (and_from _ _ (is_past c p.width column.below) (is_past r p.height row.below)))
      ∙ sym (ap (λ n. smooth_texel (Some a) p n (nearest 0 p.height p.height r)) (nearest_own p.width c x) ∙ ap (λ n. smooth_texel (Some a) p c n) (nearest_own p.height r y));
}

-- ---- A smooth part: its texture is made, and then drawn.
-- no atlas has a name above 64
no_atlas_above : (o : Option Atlas) (n : ℕ) → ((a : Atlas) → o ≡ Some a → n ≤ 64) → 64 < n → o ≡ None
no_atlas_above None n h l = refl
no_atlas_above (Some a) n h l = absurd (let e = h a refl in omega (arith, e, l))

no_smooth_atlas : (p : ScaledPart) → IsNoAtlas (Smooth p)
no_smooth_atlas p = record { none = λ id. refl }

pub smooth_plays : (w h : ℕ) (clip : Option ClipBox) (before : List Item) (ds : List Draw) (s : State) (p : ScaledPart) (st : Stage w h clip before ds s) → Scaled before p →
    st.view.w * st.view.h * 4 + bytes_of before + least_power p.width * least_power p.height * 4 ≤ 1073741824 → ((x y : ℕ) → IsBytes (pixel_of (ds ++ draw_of clip before true p ∷ []) x y)) →
    Plays s (smooth_calls (65 + length before) (atlas_with before p.part.atlas) p) (Stage w h clip (before ++ Smooth p ∷ []) (ds ++ draw_of clip before true p ∷ []))
smooth_plays w h clip before ds s p st q room all =
    let v = st.view in
    let a = q.part.atlas in
    let is = q.part.is in
    let b = v.w * v.h * 4 + bytes_of before in
    let name = 65 + length before in
    let pw = least_power p.width in
    let ph = least_power p.height in
    let pixel : ℕ → ℕ → Pixel = smooth_texel (Some a) p in
    let small = st.small p.part.atlas a is in
    let none : atlas_with before name ≡ None = no_atlas_above (atlas_with before name) name (λ x e. (st.ids name x e).1) (omega arith) in
    let first = texture_plays s v b name pw ph (smooth_texels (Some a) p) pixel st.stands (omega arith) (st.free name none (inr (omega arith))) (power_side p.width) (power_side p.height) room (smooth_picture a p small q.wide.low q.high.low) in
    let bytes = bytes_more before (Smooth p) in
    let same : pw * ph * 4 ≡ 4 * pw * ph = let x = mul_comm (pw * ph) 4 in let y = mul_assoc 4 pw ph in x ∙ sym y in
    let long = length-append before (Smooth p ∷ []) in
    let sum : b + pw * ph * 4 ≡ v.w * v.h * 4 + bytes_of (before ++ Smooth p ∷ []) = omega (arith, bytes, same) in
    let wide = power_above p.width q.wide.high in
    let high = power_above p.height q.high.high in
    let low_w = q.wide.low in
    let low_h = q.high.low in
    let stage = Stage w h clip (before ++ Smooth p ∷ []) (ds ++ draw_of clip before true p ∷ []) in
    subst (λ o. Plays s (smooth_calls (65 + length before) o p) stage) (sym is)
    (plays_append s (new_texture name pw ph (smooth_texels (Some a) p)) (crop 0 0 p.width p.height ∷ draw_tex p ∷ []) (HasNew s v b name pw ph pixel) stage first (λ m n.
    let u = with_texture_named v name n.object in
    let next = cut_plays m u (b + pw * ph * 4) pw ph pixel 0 0 p.width p.height ds (draw_of clip before true p ∷ []) n.stands st.picture n.has (sym (object_put name n.object v.names))
    (record { some_columns = low_w; some_rows = low_h; columns = omega (arith, wide); rows = omega (arith, high); bytes = λ x y l k. smooth_texel_bytes a p x y small low_w low_h })
    (All-cons (IsShownBy v.w v.h v.clip pixel 0 0 p.width p.height) (draw_of clip before true p) [] (smooth_shown u clip before p a st.box is low_w low_h) (All-nil _)) in
    let behind : State = after m (crop 0 0 p.width p.height ∷ draw_tex p ∷ []) in
    record {
      done = next.done;
      holds = record {
        view = record u { target = next.holds.target };
        wide = st.wide;
        high = st.high;
        box = st.box;
        stands = subst (Stands behind (record u { target = next.holds.target })) sum next.holds.stands;
        picture = next.holds.picture;
        bytes = all;
        ids = λ id x e. st.ids id x (sym (no_atlas_more before (Smooth p) id (no_smooth_atlas p)) ∙ e);
        small = λ id x e. st.small id x (sym (no_atlas_more before (Smooth p) id (no_smooth_atlas p)) ∙ e);
        atlases = λ id x e.
            let old = sym (no_atlas_more before (Smooth p) id (no_smooth_atlas p)) ∙ e in
            let few = (st.ids id x old).1 in
            next.holds.keeps id x.width x.height (texel (Some x)) (n.keeps id x.width x.height (texel (Some x)) (λ same. absurd (omega (arith, same, few))) (st.atlases id x old));
        free = λ k e l.
            object_put_other k name n.object v.names (λ same. apart k l long same)
            ∙ st.free k (sym (no_atlas_more before (Smooth p) k (no_smooth_atlas p)) ∙ e) (shorter k l long);
      };
    }))
  where
    apart : (k : ℕ) → (k ≤ 64) ⊎ (65 + length (before ++ Smooth p ∷ []) ≤ k) → length (before ++ Smooth p ∷ []) ≡ length before + length (Smooth p ∷ []) → 65 + length before ≡ k → ⊥
    apart k (inl l) e same = omega (arith, l, same)
    apart k (inr l) e same = omega (arith, l, e, same)

    shorter : (id : ℕ) → (id ≤ 64) ⊎ (65 + length (before ++ Smooth p ∷ []) ≤ id) → length (before ++ Smooth p ∷ []) ≡ length before + length (Smooth p ∷ []) → (id ≤ 64) ⊎ (65 + length before ≤ id)
    shorter id (inl l) e = inl l
    shorter id (inr l) e = inr (omega (arith, l, e))
