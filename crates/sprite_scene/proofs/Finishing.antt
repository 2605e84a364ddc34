-- All items, and the picture that is read behind them.
use Rattle.std.proofs.Common.{◌≡◌, ℕ, ◌+◌, ◌*◌, ◌<◌, ◌≤◌, ℤ, pos, true, false, List, [], ◌∷◌, ◌++◌, map, refl, sym, subst, ap, ◌∙◌, arith, Option, None, Some, append_assoc}
use Rattle.std.specs.Prelude.{◌-ℤ◌, All, is_none, nat_le, slice_index}
use Rattle.egl_calls.specs.Ranges.{unsigned}
use Rattle.std.proofs.lemmas.Bool.{and_parts, cond_both, leb-true}
use Rattle.std.proofs.Math.Nat.{mul_assoc, mul_comm}
use Rattle.std.proofs.lemmas.List.{append-nil}
use Rattle.std.proofs.lemmas.List.Elements.{All-cons, All-head, All-nil, All-tail}
use Rattle.std.proofs.lemmas.List.Sums.{sum_by-cons}
use Rattle.egl_calls.specs.Calls.{CallValue}
use Rattle.pixel_formats.specs.Bounds.{IsBytes}
use Rattle.pixel_formats.specs.declared.pixels.Pixel.{Pixel}
use Rattle.egl_model.specs.State.{State}
use Rattle.egl_model.specs.Step.{step}
use Rattle.scene_reader.specs.Items.{atlas_with, bytes_of, is_atlas, is_between, is_item, is_new_atlas, is_texture_side, least_power, texture_bytes}
use Rattle.scene_reader.specs.Scenes.{AreItems, IsScene, SceneValue}
use Rattle.scene_reader.specs.declared.items.Atlas.{Atlas}
use Rattle.scene_reader.specs.declared.items.ClipBox.{ClipBox}
use Rattle.scene_reader.specs.declared.items.Item.{Item}
use Rattle.scene_reader.specs.declared.items.Item.TheVariants.{Atlas as AtlasItem, Sprite, Smooth, Tile, Clip, NoClip}
use Rattle.scene_reader.specs.declared.items.ScaledPart.{ScaledPart}
use Rattle.sprite_scene.specs.Calls.{calls_from, calls_of, item_calls, opening_calls, read_all}
use Rattle.sprite_scene.specs.Draws.{Draw, clip_after, draw_of, draws_from, item_draws, tile_at, tiles, writes}
use Rattle.sprite_scene.specs.Parts.{HasBytes}
use Rattle.sprite_scene.specs.Painted.{draws, pixel_of}
use Rattle.sprite_scene.specs.Runs.{AreDone, Draws, after, opened}
use Rattle.sprite_scene.specs.Samples.{sample, sharp_at, smooth_at}
use Rattle.sprite_scene.proofs.FirstStage.{opening_plays}
use Rattle.sprite_scene.proofs.ItemLaws.{bytes_more}
use Rattle.sprite_scene.proofs.ItemStages.{Follows, all_map, all_tiles, clip_box, next_stage, scaled_parts, sprite_plays, tile_part, tile_plays}
use Rattle.sprite_scene.proofs.OpeningCalls.{area_fits}
use Rattle.sprite_scene.proofs.PixelCalls.{read_goes}
use Rattle.sprite_scene.proofs.Pictures.{whole_bytes}
use Rattle.sprite_scene.proofs.Plays.{Plays, plays_append, plays_as, plays_none}
use Rattle.sprite_scene.proofs.SmoothLaws.{smooth_bytes}
use Rattle.sprite_scene.proofs.SmoothStages.{smooth_plays}
use Rattle.sprite_scene.proofs.TextureStages.{atlas_plays}
use Rattle.sprite_scene.proofs.Views.{IsPicture, View}
use Rattle.sprite_scene.proofs.Stages.{Stage, one_more}

-- ---- The pixels are bytes.
-- what a draw shows is
pub record ShowsBytes (d : Draw) : Type 0 where
  pub each : (x y : ℕ) → IsBytes (sample d x y)

pub bytes_after : (ds ps : List Draw) → ((x y : ℕ) → IsBytes (pixel_of ds x y)) → All ShowsBytes ps → (x y : ℕ) → IsBytes (pixel_of (ds ++ ps) x y)
bytes_after ds [] h a x y = subst (λ es. IsBytes (pixel_of es x y)) (sym (append-nil ds)) (h x y)
bytes_after ds (p ∷ ps) h a x y =
    subst (λ es. IsBytes (pixel_of es x y)) (append_assoc ds (p ∷ []) ps)
    (bytes_after (ds ++ p ∷ []) ps (λ i j. subst IsBytes (sym (one_more ds p i j)) (cond_both (writes i j p) (sample p i j) (pixel_of ds i j) IsBytes (λ _. (All-head ShowsBytes p ps a).each i j) (λ _. h i j))) (All-tail ShowsBytes p ps a) x y)

-- ---- Each item.
sharp_bytes : (clip : Option ClipBox) (before : List Item) (s : ScaledPart) (a : Atlas) → atlas_with before s.part.atlas ≡ Some a → ((k : ℕ) → slice_index a.texels k < 256) → ShowsBytes (draw_of clip before false s)
sharp_bytes clip before s a e small = record { each = λ x y. subst (λ o. IsBytes (sharp_at o s (unsigned (pos x -ℤ s.x)) (unsigned (pos y -ℤ s.y)))) (sym e) (record { r = small _; g = small _; b = small _; a = small _ }) }

smooth_shows : (clip : Option ClipBox) (before : List Item) (s : ScaledPart) (a : Atlas) → atlas_with before s.part.atlas ≡ Some a → ((k : ℕ) → slice_index a.texels k < 256) → 1 ≤ s.width → 1 ≤ s.height → ShowsBytes (draw_of clip before true s)
smooth_shows clip before s a e small p q = record { each = λ x y. subst (λ o. IsBytes (smooth_at o s (unsigned (pos x -ℤ s.x)) (unsigned (pos y -ℤ s.y)))) (sym e) (smooth_bytes a s (unsigned (pos x -ℤ s.x)) (unsigned (pos y -ℤ s.y)) small p q) }

-- behind an item
abbrev pub Then : ℕ → ℕ → Option ClipBox → List Item → List Draw → Item → State → Type 0
Then w h clip before ds i = Stage w h (clip_after clip i) (before ++ i ∷ []) (ds ++ item_draws clip before i)

no_draws : (w h : ℕ) (clip : Option ClipBox) (before : List Item) (ds : List Draw) (s : State) → Stage w h clip before ds s → Stage w h clip before (ds ++ []) s
no_draws w h clip before ds s st = subst (λ es. Stage w h clip before es s) (sym (append-nil ds)) st

-- what is known of an atlas
pub record IsNew (before : List Item) (a : Atlas) : Type 0 where
  pub low : 1 ≤ a.id
  pub high : a.id ≤ 64
  pub new : atlas_with before a.id ≡ None
  pub wide : is_texture_side a.width ≡ true
  pub tall : is_texture_side a.height ≡ true

none_of : (o : Option Atlas) → is_none o ≡ true → o ≡ None
none_of None h = refl
none_of (Some a) h = absurd (let e : false ≡ true = h in cc)

pub is_new : (before : List Item) (a : Atlas) → is_atlas before a ≡ true → IsNew before a
is_new before a h =
    let all = and_parts (is_new_atlas before a.id a.width a.height) _ h in
    let p = and_parts _ (is_texture_side a.height) all.0 in
    let q = and_parts _ (is_texture_side a.width) p.0 in
    let r = and_parts (is_between 1 64 a.id) (is_none (atlas_with before a.id)) q.0 in
    let s = and_parts (nat_le 1 a.id) (nat_le a.id 64) r.0 in
    record { low = leb-true 1 a.id s.0; high = leb-true a.id 64 s.1; new = none_of (atlas_with before a.id) r.1; wide = q.1; tall = p.1 }

item_plays : (w h : ℕ) (clip : Option ClipBox) (before : List Item) (ds : List Draw) (i : Item) (s : State) → w ≤ 2048 → h ≤ 2048 → is_item before i ≡ true → HasBytes i → bytes_of before + texture_bytes i ≤ 8388608 → Stage w h clip before ds s →
    Plays s (item_calls w h before i) (Then w h clip before ds i)
item_plays w h clip before ds (AtlasItem a) s k l is small room st =
    let n = is_new before a is in
    let area = area_fits w h k l in
    let same : a.width * a.height * 4 ≡ 4 * a.width * a.height = let x = mul_comm (a.width * a.height) 4 in let y = mul_assoc 4 a.width a.height in x ∙ sym y in
    let size : st.view.w * st.view.h * 4 ≡ w * h * 4 = ap (λ n. n * st.view.h * 4) st.wide ∙ ap (λ n. w * n * 4) st.high in
    plays_as s _ (Stage w h clip (before ++ AtlasItem a ∷ []) ds) (Then w h clip before ds (AtlasItem a)) (atlas_plays w h clip before ds s a st n.low n.high n.new n.wide n.tall small (omega (arith, area, same, size, room)))
    (λ t z. no_draws w h clip (before ++ AtlasItem a ∷ []) ds t z)
item_plays w h clip before ds (Sprite p) s k l is small room st =
    let q = scaled_parts before p is in
    let a = q.part.atlas in
    let e = q.part.is in
    let ps = draw_of clip before false p ∷ [] in
    plays_as s _ (Follows w h clip before (ds ++ ps) s st.view) (Then w h clip before ds (Sprite p)) (sprite_plays w h clip before ds s p st (st.ids p.part.atlas a e).0 q)
    (λ t f. next_stage w h clip clip before ds (ds ++ ps) s t (Sprite p) st (record { none = λ id. refl }) refl
    (bytes_after ds ps st.bytes (All-cons ShowsBytes (draw_of clip before false p) [] (sharp_bytes clip before p a e (st.small p.part.atlas a e)) (All-nil ShowsBytes))) f)
item_plays w h clip before ds (Smooth p) s k l is small room st =
    let q = scaled_parts before p is in
    let a = q.part.atlas in
    let e = q.part.is in
    let ps = draw_of clip before true p ∷ [] in
    let area = area_fits w h k l in
    let pw = least_power p.width in
    let ph = least_power p.height in
    let same : pw * ph * 4 ≡ 4 * pw * ph = let x = mul_comm (pw * ph) 4 in let y = mul_assoc 4 pw ph in x ∙ sym y in
    let size : st.view.w * st.view.h * 4 ≡ w * h * 4 = ap (λ n. n * st.view.h * 4) st.wide ∙ ap (λ n. w * n * 4) st.high in
    smooth_plays w h clip before ds s p st q (omega (arith, area, same, size, room))
    (bytes_after ds ps st.bytes (All-cons ShowsBytes (draw_of clip before true p) [] (smooth_shows clip before p a e (st.small p.part.atlas a e) q.wide.low q.high.low) (All-nil ShowsBytes)))
item_plays w h clip before ds (Tile t) s k l is small room st =
    let i = tile_part before t is in
    let a = i.atlas in
    let ps = map (draw_of clip before false) (tiles t) in
    plays_as s _ (Follows w h clip before (ds ++ ps) s st.view) (Then w h clip before ds (Tile t)) (tile_plays w h clip before ds s t st (st.ids t.part.atlas a i.is).0 i)
    (λ u f. next_stage w h clip clip before ds (ds ++ ps) s u (Tile t) st (record { none = λ id. refl }) refl
    (bytes_after ds ps st.bytes (all_map ShowsBytes (draw_of clip before false) (tiles t) (all_tiles (λ p. ShowsBytes (draw_of clip before false p)) t (λ column row. sharp_bytes clip before (tile_at t column row) a i.is (st.small t.part.atlas a i.is))))) f)
item_plays w h clip before ds (Clip c) s k l is small room st =
    plays_as s _ (Follows w h (Some c) before ds s st.view) (Then w h clip before ds (Clip c)) (clip_box w h clip (Some c) before ds s c.x c.y c.width c.height st refl)
    (λ t f. no_draws w h (Some c) (before ++ Clip c ∷ []) ds t (next_stage w h clip (Some c) before ds ds s t (Clip c) st (record { none = λ id. refl }) refl st.bytes f))
item_plays w h clip before ds NoClip s k l is small room st =
    plays_as s _ (Follows w h None before ds s st.view) (Then w h clip before ds NoClip) (clip_box w h clip None before ds s (pos 0) (pos 0) w h st (ap (λ n. pos 0 ∷ pos 0 ∷ pos n ∷ pos h ∷ []) (sym st.wide) ∙ ap (λ n. pos 0 ∷ pos 0 ∷ pos st.view.w ∷ pos n ∷ []) (sym st.high)))
    (λ t f. no_draws w h None (before ++ NoClip ∷ []) ds t (next_stage w h clip None before ds ds s t NoClip st (record { none = λ id. refl }) refl st.bytes f))

-- ---- All items.
pub record End (w h : ℕ) (ds : List Draw) (s : State) : Type 0 where
  pub clip : Option ClipBox
  pub before : List Item
  pub stage : Stage w h clip before ds s

items_play : (w h : ℕ) (clip : Option ClipBox) (before more : List Item) (ds : List Draw) (s : State) → w ≤ 2048 → h ≤ 2048 → AreItems before more → All HasBytes more → bytes_of before + bytes_of more ≤ 8388608 → Stage w h clip before ds s →
    Plays s (calls_from w h before more) (End w h (ds ++ draws_from clip before more))
items_play w h clip before [] ds s k l are small room st = plays_none s (End w h (ds ++ [])) (record { clip = clip; before = before; stage = no_draws w h clip before ds s st })
items_play w h clip before (i ∷ more) ds s k l are small room st =
    let first = sum_by-cons texture_bytes i more in
    let next = bytes_more before i in
    plays_append s (item_calls w h before i) (calls_from w h (before ++ i ∷ []) more) (Then w h clip before ds i) (End w h (ds ++ draws_from clip before (i ∷ more)))
    (item_plays w h clip before ds i s k l are.0 (All-head HasBytes i more small) (omega (arith, room, first)) st) (λ t z.
    subst (λ es. Plays t (calls_from w h (before ++ i ∷ []) more) (End w h es)) (append_assoc ds (item_draws clip before i) (draws_from (clip_after clip i) (before ++ i ∷ []) more))
    (items_play w h (clip_after clip i) (before ++ i ∷ []) more (ds ++ item_draws clip before i) t k l are.1 (All-tail HasBytes i more small) (omega (arith, room, first, next)) z))

-- ---- The whole scene.
done_append : (s : State) (cs ds : List CallValue) → AreDone s cs → AreDone (after s cs) ds → AreDone s (cs ++ ds)
done_append s [] ds a b = b
done_append s (c ∷ cs) ds a b = (a.0, done_append (step s 0 c).state cs ds a.1 b)

pub scene_draws : (s : SceneValue) → IsScene s → All HasBytes s.items → Draws s (calls_of s)
scene_draws s is small =
    let w = s.width in
    let h = s.height in
    let k = is.width.high in
    let l = is.height.high in
    let first = opening_calls w h in
    let rest = calls_from w h [] s.items in
    let few = is.few_bytes in
    let p = plays_append opened first rest (Stage w h None [] []) (End w h (draws s)) (opening_plays w h k l) (λ t st. items_play w h None [] s.items [] t k l is.items small (omega (arith, few)) st) in
    let st = p.holds.stage in
    let v = st.view in
    let read = read_goes (after opened (first ++ rest)) v (v.w * v.h * 4 + bytes_of p.holds.before) w h st.stands k l in
    record {
      before = first ++ rest;
      reads = sym (append_assoc first rest (read_all w h ∷ []));
      done = subst (AreDone opened) (append_assoc first rest (read_all w h ∷ [])) (done_append opened (first ++ rest) (read_all w h ∷ []) p.done (read.0, tt));
      picture = read.1 ∙ whole_bytes v.target w h (pixel_of (draws s)) (picture_in v w h (pixel_of (draws s)) st.wide st.high st.picture) st.bytes;
    }
  where
    picture_in : (v : View) (a b : ℕ) (pixel : ℕ → ℕ → Pixel) → v.w ≡ a → v.h ≡ b → IsPicture v.w v.h pixel v.target → IsPicture a b pixel v.target
    picture_in v a b pixel e f i = subst (λ n. IsPicture a n pixel v.target) f (subst (λ n. IsPicture n v.h pixel v.target) e i)
