-- Each kind of item keeps the invariant.
use Rattle.std.proofs.Common.{◌≡◌, ℕ, zero, suc, ◌+◌, ◌*◌, ◌<◌, ◌≤◌, ℤ, pos, true, false, ◌&&◌, inl, inr, ◌⊎◌, List, [], ◌∷◌, ◌++◌, length, map, refl, sym, subst, ap, ◌∙◌, arith, Option, Some}
use Rattle.std.specs.Prelude.{◌-ℤ◌, All}
use Rattle.egl_calls.specs.Ranges.{unsigned}
use Rattle.std.specs.List.{flat_map, range_with_len}
use Rattle.std.proofs.lemmas.Bool.{and_parts}
use Rattle.std.proofs.lemmas.List.{length-append}
use Rattle.std.proofs.lemmas.List.Elements.{All-cons, All-head, All-nil, All-tail}
use Rattle.pixel_formats.specs.Bounds.{IsBytes}
use Rattle.pixel_formats.specs.declared.pixels.Pixel.{Pixel}
use Rattle.pixel_rows.specs.Rects.{is_in}
use Rattle.rect_pipeline.specs.Targets.{rect_of}
use Rattle.share_group.specs.Names.{object_of}
use Rattle.egl_model.specs.State.{State}
use Rattle.scene_reader.specs.Items.{atlas_with, bytes_of, is_item, texture_bytes}
use Rattle.scene_reader.specs.declared.items.Atlas.{Atlas}
use Rattle.scene_reader.specs.declared.items.ClipBox.{ClipBox}
use Rattle.scene_reader.specs.declared.items.Item.{Item}
use Rattle.scene_reader.specs.declared.items.Item.TheVariants.{Sprite, Tile}
use Rattle.scene_reader.specs.declared.items.ScaledPart.{ScaledPart}
use Rattle.scene_reader.specs.declared.items.TiledPart.{TiledPart}
use Rattle.sprite_scene.specs.Calls.{bind_texture, crop, crop_part, draw_tex, scissor}
use Rattle.sprite_scene.specs.Draws.{Draw, draw_of, drawn_rect, tile_at, tiles}
use Rattle.sprite_scene.specs.Painted.{pixel_of}
use Rattle.sprite_scene.specs.Runs.{after}
use Rattle.sprite_scene.specs.Samples.{nearest, texel}
use Rattle.sprite_scene.proofs.DrawnParts.{IsShownBy, cut_plays}
use Rattle.sprite_scene.proofs.ItemLaws.{IsExtent, IsIn, IsNoAtlas, allowed, bytes_more, extent_is, lies_in, no_atlas_more}
use Rattle.sprite_scene.proofs.LineCalls.{Clipped, clipped, scissor_goes}
use Rattle.sprite_scene.proofs.Pictures.{IsCutFrom}
use Rattle.sprite_scene.proofs.Plays.{Plays, plays_one, plays_then}
use Rattle.sprite_scene.proofs.Stages.{Stage, box_of}
use Rattle.sprite_scene.proofs.TextureCalls.{Bound, bind_goes, bound}
use Rattle.sprite_scene.proofs.Views.{Has, IsPicture, Stands, View}

-- ---- Behind an item that is no atlas, and with the names that there were.
-- a state with another view of the same names, in which each name has what it had
pub record Follows (w h : ℕ) (clip : Option ClipBox) (before : List Item) (ds : List Draw) (s : State) (v : View) (a : State) : Type 0 where
  pub view : View
  pub wide : view.w ≡ w
  pub high : view.h ≡ h
  pub box : view.clip ≡ box_of view.w view.h clip
  pub names : view.names ≡ v.names
  pub stands : Stands a view (view.w * view.h * 4 + bytes_of before)
  pub picture : IsPicture view.w view.h (pixel_of ds) view.target
  pub keeps : (name i j : ℕ) (pixel : ℕ → ℕ → Pixel) → Has s.objects v.names name i j pixel → Has a.objects view.names name i j pixel

stands_as : (s : State) (v : View) (b c : ℕ) → b ≡ c → Stands s v b → Stands s v c
stands_as s v b c e k = subst (Stands s v) e k

pub next_stage : (w h : ℕ) (clip new : Option ClipBox) (before : List Item) (ds more : List Draw) (s a : State) (i : Item) (st : Stage w h clip before ds s) → IsNoAtlas i → texture_bytes i ≡ 0 → ((x y : ℕ) → IsBytes (pixel_of more x y)) → Follows w h new before more s st.view a →
    Stage w h new (before ++ i ∷ []) more a
next_stage w h clip new before ds more s a i st n z bytes_all f =
    let bytes = bytes_more before i in
    let long = length-append before (i ∷ []) in
    record {
      view = f.view;
      wide = f.wide;
      high = f.high;
      box = f.box;
      stands = stands_as a f.view (f.view.w * f.view.h * 4 + bytes_of before) (f.view.w * f.view.h * 4 + bytes_of (before ++ i ∷ [])) (omega (arith, bytes, z)) f.stands;
      picture = f.picture;
      bytes = bytes_all;
      ids = λ id x e. st.ids id x (sym (no_atlas_more before i id n) ∙ e);
      small = λ id x e. st.small id x (sym (no_atlas_more before i id n) ∙ e);
      atlases = λ id x e. f.keeps id x.width x.height (texel (Some x)) (st.atlases id x (sym (no_atlas_more before i id n) ∙ e));
      free = λ id e l. ap (object_of id) f.names ∙ st.free id (sym (no_atlas_more before i id n) ∙ e) (shorter id l long);
    }
  where
    shorter : (id : ℕ) → (id ≤ 64) ⊎ (65 + length (before ++ i ∷ []) ≤ id) → length (before ++ i ∷ []) ≡ length before + length (i ∷ []) → (id ≤ 64) ⊎ (65 + length before ≤ id)
    shorter id (inl l) e = inl l
    shorter id (inr l) e = inr (omega (arith, l, e))

-- ---- A clip.
pub clip_box : (w h : ℕ) (clip new : Option ClipBox) (before : List Item) (ds : List Draw) (s : State) (x y : ℤ) (cw ch : ℕ) (st : Stage w h clip before ds s) → (x ∷ y ∷ pos cw ∷ pos ch ∷ []) ≡ box_of st.view.w st.view.h new →
    Plays s (scissor x y cw ch ∷ []) (Follows w h new before ds s st.view)
clip_box w h clip new before ds s x y cw ch st e =
    let v = st.view in
    let b = v.w * v.h * 4 + bytes_of before in
    plays_one s (scissor x y cw ch) (Clipped s v b x y cw ch) (Follows w h new before ds s v) (scissor_goes s v b x y cw ch st.stands) (λ a c.
    record {
      view = clipped v x y cw ch;
      wide = st.wide;
      high = st.high;
      box = e;
      names = refl;
      stands = c.stands;
      picture = st.picture;
      keeps = c.keeps;
    })

-- ---- Parts of an atlas.
-- what is known of a part that an item draws
part_cut : (w h : ℕ) (clip : Option ClipBox) (before : List Item) (ds : List Draw) (s : State) (st : Stage w h clip before ds s) (id u t cw ch : ℕ) (a : Atlas) → atlas_with before id ≡ Some a → 1 ≤ cw → 1 ≤ ch → u + cw ≤ a.width → t + ch ≤ a.height →
    IsCutFrom (texel (Some a)) a.width a.height u t cw ch
part_cut w h clip before ds s st id u t cw ch a e p q r o = record {
  some_columns = p;
  some_rows = q;
  columns = r;
  rows = o;
  bytes = λ x y l m. let small = st.small id a e in record { r = small _; g = small _; b = small _; a = small _ };
}

-- a part that is drawn sharp shows its texels
sharp_shown : (v : View) (clip : Option ClipBox) (before : List Item) (s : ScaledPart) (a : Atlas) → v.clip ≡ box_of v.w v.h clip → atlas_with before s.part.atlas ≡ Some a → 1 ≤ s.width → 1 ≤ s.height →
    IsShownBy v.w v.h v.clip (texel (Some a)) s.part.u s.part.v s.part.width s.part.height (draw_of clip before false s)
sharp_shown v clip before s a box e p q = record {
  some_wide = p;
  some_high = q;
  writes_as = λ x y l m. ap (λ b. b && is_in (drawn_rect s) x y) (allowed v.w v.h clip x y l m ∙ ap (λ c. is_in (rect_of c) x y) (sym box));
  shows = λ x y on. ap (λ o. texel o (nearest s.part.u s.part.width s.width (unsigned (pos x -ℤ s.x))) (nearest s.part.v s.part.height s.height (unsigned (pos y -ℤ s.y)))) e;
}

-- the parts of one atlas, drawn one after another
parts_follow : (w h : ℕ) (clip : Option ClipBox) (before : List Item) (ds ps : List Draw) (s : State) (st : Stage w h clip before ds s) (id u t cw ch : ℕ) (a : Atlas) → 0 < id → atlas_with before id ≡ Some a → IsCutFrom (texel (Some a)) a.width a.height u t cw ch →
    All (IsShownBy st.view.w st.view.h st.view.clip (texel (Some a)) u t cw ch) ps →
    Plays s (bind_texture id ∷ crop u t cw ch ∷ map (λ d. draw_tex d.drawn) ps) (Follows w h clip before (ds ++ ps) s st.view)
parts_follow w h clip before ds ps s st id u t cw ch a some e cut shown =
    let v = st.view in
    let b = v.w * v.h * 4 + bytes_of before in
    let has = st.atlases id a e in
    let x = has.object in
    let u1 = bound v x id in
    plays_then s (bind_texture id) (crop u t cw ch ∷ map (λ d. draw_tex d.drawn) ps) (Bound s v b x id) (Follows w h clip before (ds ++ ps) s v) (bind_goes s v b x id st.stands some has.named) (λ m n.
    let p = cut_plays m u1 b a.width a.height (texel (Some a)) u t cw ch ds ps n.stands st.picture (n.keeps id a.width a.height (texel (Some a)) has) (sym has.named) cut shown in
    record {
      done = p.done;
      holds = record {
        view = record u1 { target = p.holds.target };
        wide = st.wide;
        high = st.high;
        box = st.box;
        names = refl;
        stands = p.holds.stands;
        picture = p.holds.picture;
        keeps = λ name i j pixel z. p.holds.keeps name i j pixel (n.keeps name i j pixel z);
      };
    })

-- ---- A sprite.
-- a part that may be drawn behind some items
pub record Scaled (before : List Item) (s : ScaledPart) : Type 0 where
  pub part : IsIn (atlas_with before s.part.atlas) s.part
  pub wide : IsExtent s.width
  pub high : IsExtent s.height

pub scaled_parts : (before : List Item) (s : ScaledPart) → is_item before (Sprite s) ≡ true → Scaled before s
scaled_parts before s h =
    let a = and_parts _ _ h in
    let b = and_parts _ _ a.0 in
    let c = and_parts _ _ b.0 in
    let d = and_parts _ _ c.0 in
    record { part = lies_in (atlas_with before s.part.atlas) s.part d.0; wide = extent_is s.width b.1; high = extent_is s.height a.1 }

pub sprite_plays : (w h : ℕ) (clip : Option ClipBox) (before : List Item) (ds : List Draw) (s : State) (p : ScaledPart) (st : Stage w h clip before ds s) → 0 < p.part.atlas → Scaled before p →
    Plays s (bind_texture p.part.atlas ∷ crop_part p.part ∷ draw_tex p ∷ []) (Follows w h clip before (ds ++ draw_of clip before false p ∷ []) s st.view)
sprite_plays w h clip before ds s p st some q =
    let i = q.part in
    parts_follow w h clip before ds (draw_of clip before false p ∷ []) s st p.part.atlas p.part.u p.part.v p.part.width p.part.height i.atlas some i.is
    (part_cut w h clip before ds s st p.part.atlas p.part.u p.part.v p.part.width p.part.height i.atlas i.is i.some_columns i.some_rows i.columns i.rows)
    (All-cons (IsShownBy st.view.w st.view.h st.view.clip (texel (Some i.atlas)) p.part.u p.part.v p.part.width p.part.height) (draw_of clip before false p) [] (sharp_shown st.view clip before p i.atlas st.box i.is q.wide.low q.high.low) (All-nil _))

-- ---- A tile.
pub tile_part : (before : List Item) (t : TiledPart) → is_item before (Tile t) ≡ true → IsIn (atlas_with before t.part.atlas) t.part
tile_part before t h =
    let a = and_parts _ _ h in
    let b = and_parts _ _ a.0 in
    let c = and_parts _ _ b.0 in
    let d = and_parts _ _ c.0 in
    lies_in (atlas_with before t.part.atlas) t.part d.0

-- what holds of each part of a tile holds of all
all_range : {A : Type 0} (P : A → Type 0) (f : ℕ → A) (a n : ℕ) → ((k : ℕ) → P (f k)) → All P (map f (range_with_len a n))
all_range P f a zero h = All-nil P
all_range P f a (suc n) h = All-cons P (f a) (map f (range_with_len (a + 1) n)) (h a) (all_range P f (a + 1) n h)

all_append : {A : Type 0} (P : A → Type 0) (xs ys : List A) → All P xs → All P ys → All P (xs ++ ys)
all_append P [] ys a b = b
all_append P (x ∷ xs) ys a b = All-cons P x (xs ++ ys) (All-head P x xs a) (all_append P xs ys (All-tail P x xs a) b)

all_flat : {A : Type 0} (P : A → Type 0) (f : ℕ → List A) (a n : ℕ) → ((k : ℕ) → All P (f k)) → All P (flat_map f (range_with_len a n))
all_flat P f a zero h = All-nil P
all_flat P f a (suc n) h = all_append P (f a) (flat_map f (range_with_len (a + 1) n)) (h a) (all_flat P f (a + 1) n h)

pub all_map : {A B : Type 0} (P : B → Type 0) (f : A → B) (xs : List A) → All (λ x. P (f x)) xs → All P (map f xs)
all_map P f [] a = All-nil P
all_map P f (x ∷ xs) a = All-cons P (f x) (map f xs) (All-head (λ x. P (f x)) x xs a) (all_map P f xs (All-tail (λ x. P (f x)) x xs a))

pub all_tiles : (P : ScaledPart → Type 0) (t : TiledPart) → ((column row : ℕ) → P (tile_at t column row)) → All P (tiles t)
unfolding tiles
all_tiles P t h = all_flat P _ 0 t.rows (λ row. all_range P (λ column. tile_at t column row) 0 t.columns (λ column. h column row))

-- the calls of draws are those of their parts
calls_same : (clip : Option ClipBox) (before : List Item) (ps : List ScaledPart) → map (λ d. draw_tex d.drawn) (map (draw_of clip before false) ps) ≡ map draw_tex ps
calls_same clip before [] = refl
calls_same clip before (p ∷ ps) = ap (λ cs. draw_tex p ∷ cs) (calls_same clip before ps)

pub tile_plays : (w h : ℕ) (clip : Option ClipBox) (before : List Item) (ds : List Draw) (s : State) (t : TiledPart) (st : Stage w h clip before ds s) → 0 < t.part.atlas → IsIn (atlas_with before t.part.atlas) t.part →
    Plays s (bind_texture t.part.atlas ∷ crop_part t.part ∷ map draw_tex (tiles t)) (Follows w h clip before (ds ++ map (draw_of clip before false) (tiles t)) s st.view)
tile_plays w h clip before ds s t st some i =
    let v = st.view in
    let shown = λ (p : ScaledPart). IsShownBy v.w v.h v.clip (texel (Some i.atlas)) t.part.u t.part.v t.part.width t.part.height (draw_of clip before false p) in
    subst (λ cs. Plays s (bind_texture t.part.atlas ∷ crop_part t.part ∷ cs) (Follows w h clip before (ds ++ map (draw_of clip before false) (tiles t)) s v)) (calls_same clip before (tiles t))
    (parts_follow w h clip before ds (map (draw_of clip before false) (tiles t)) s st t.part.atlas t.part.u t.part.v t.part.width t.part.height i.atlas some i.is
    (part_cut w h clip before ds s st t.part.atlas t.part.u t.part.v t.part.width t.part.height i.atlas i.is i.some_columns i.some_rows i.columns i.rows)
    (all_map (IsShownBy v.w v.h v.clip (texel (Some i.atlas)) t.part.u t.part.v t.part.width t.part.height) (draw_of clip before false) (tiles t) (all_tiles shown t (λ column row. sharp_shown v clip before (tile_at t column row) i.atlas st.box i.is i.some_columns i.some_rows))))
